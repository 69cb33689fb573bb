-- The text of a rank as a FEN is written (PGN standard of 1994, section 16.1.3.1): no two digits are side by side.
use Rattle.std.specs.Prelude.{ℕ, ◌≡◌, Bool, true, not, ◌&&◌, List, [], ◌∷◌, Option}
use Rattle.chess_base.specs.declared.man.Man.{Man}
use Rattle.byte_devices.specs.Bytes.{is_digit}
use Rattle.chess_fen.specs.Denotation.{DenotesSquares}

-- whether no two digits are side by side
abbrev pub digits_apart : List ℕ → Bool
digits_apart [] = true
digits_apart (c ∷ []) = true
digits_apart (c ∷ d ∷ rest) = not (is_digit c && is_digit d) && digits_apart (d ∷ rest)

-- the text denotes these squares, and no two of its digits are side by side, as "4P3": one digit for each run of empty
-- squares. By the law `a_rank_has_one_text` only the text that is written for a rank is so
pub record IsRankText (row : List (Option Man)) (text : List ℕ) : Type 0 where
  pub denotes : DenotesSquares text row
  pub apart : digits_apart text ≡ true
