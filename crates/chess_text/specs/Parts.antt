-- What moves' texts are put together from: letters, files and ranks, and the marks at the end.
use Rattle.std.specs.Prelude.{ℕ, ◌+◌, ◌-◌, ◌==◌, Bool, ◌||◌, List, [], ◌∷◌, ◌++◌, length, take, map, flat_map}
use Rattle.std.specs.List.{suffix_len}
use Rattle.chess_base.specs.declared.man.Kind.{Kind}
use Rattle.chess_base.specs.Letters.{white_letter}
use Rattle.byte_devices.specs.Bytes.{byte}

-- a byte is a mark that may follow a move's text: + (check), # (mate), ! and ? (annotations)
abbrev pub is_mark : ℕ → Bool
is_mark c = (c == byte "+") || (c == byte "#") || (c == byte "!") || (c == byte "?")

-- a text without the marks at its end: `Qh4` for `Qh4#!`
unfoldable pub unmarked : List ℕ → List ℕ
unmarked text = take (length text - suffix_len is_mark text) text

-- the capital letter of a kind of piece: N for a knight, P for a pawn
abbrev pub kind_text : Kind → List ℕ
kind_text k = white_letter k ∷ []

-- the letter of a file: a for file 0, h for file 7
abbrev pub file_text : ℕ → List ℕ
file_text f = (byte "a" + f) ∷ []

-- the digit of a rank: 1 for rank 0, 8 for rank 7
abbrev pub rank_text : ℕ → List ℕ
rank_text r = (byte "1" + r) ∷ []

infixr 66 ◌·◌
-- each text of xs followed by each text of ys: a1, a2, b1, b2 for `a`, `b` and `1`, `2`
abbrev pub ◌·◌ : List (List ℕ) → List (List ℕ) → List (List ℕ)
xs · ys = flat_map (λ x. map (λ y. x ++ y) ys) xs
