-- The pieces of a text that is divided into two parts (shards).
use Rattle.std.specs.Prelude.{◌≡◌, ℕ, true, Bool, false, if◌then◌else◌, List, [], ◌∷◌, ◌++◌}
use Rattle.std.specs.List.{list_all}
use Rattle.pgn_pieces.specs.Pieces.{lines_of, is_tag_line, is_empty_line, is_moves_line, cut}

-- whether the last of these lines that isn't empty is a line of moves
abbrev pub ends_in_moves : List (List ℕ) → Bool
ends_in_moves [] = false
ends_in_moves (line ∷ lines) = if list_all is_empty_line lines then is_moves_line line else ends_in_moves lines

-- whether the first of these lines is a tag line
abbrev pub begins_in_tag : List (List ℕ) → Bool
begins_in_tag [] = false
begins_in_tag (line ∷ lines) = is_tag_line line

-- a text that is divided after a line of moves and any empty lines, right after a `\n` (byte 10), and before a tag
-- line, has the pieces of its first part (`front` and that `\n`) and then those of its second (`rest`)
abbrev pub ShardsAreCut : Type 0
ShardsAreCut = (front rest : List ℕ) → ends_in_moves (lines_of (front ++ 10 ∷ [])) ≡ true
    → begins_in_tag (lines_of rest) ≡ true → cut ((front ++ 10 ∷ []) ++ rest) ≡ cut (front ++ 10 ∷ []) ++ cut rest
