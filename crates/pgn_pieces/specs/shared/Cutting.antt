-- The pieces that `cut` makes, defined from the first line on: each piece is whole before the next begins.
use Rattle.std.specs.Prelude.{ℕ, if◌then◌else◌, List, [], ◌∷◌, ◌++◌}
use Rattle.std.specs.List.{concat}
use Rattle.pgn_pieces.specs.Pieces.{begins_piece}

-- the piece that has these bytes; none, if there are none
abbrev pub piece_of : List ℕ → List (List ℕ)
piece_of [] = []
piece_of (c ∷ cs) = (c ∷ cs) ∷ []

-- the pieces of the lines `before`, all of which belong to the first piece, and of the lines after them (the last
-- argument)
abbrev pub cut_lines : List (List ℕ) → List (List ℕ) → List (List ℕ)
cut_lines before [] = piece_of (concat before)
cut_lines before (line ∷ lines) =
    if begins_piece before line then concat before ∷ cut_lines (line ∷ []) lines
    else cut_lines (before ++ line ∷ []) lines
