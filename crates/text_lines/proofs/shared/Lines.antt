-- For readers of lines: of no bytes there is no line (nothing_left), and a text is no longer without the spaces and
-- tabs at its front (without_front_blanks-short, by induction over the text).
use Rattle.std.proofs.Common.{◌≡◌, ℕ, ◌≤◌, Bool, true, false, List, [], ◌∷◌, length, refl, arith}
use Rattle.text_lines.specs.Lines.{lines_from, lines_of_parts, without_front_blanks}

-- of no bytes there is no line
pub nothing_left : (n : ℕ) (at_end : Bool) → lines_from n at_end [] [] ≡ []
unfolding lines_of_parts
nothing_left n true = refl
nothing_left n false = refl

-- a text is no longer without the spaces and tabs at its front
pub without_front_blanks-short : (xs : List ℕ) → length (without_front_blanks xs) ≤ length xs
without_front_blanks-short [] = omega arith
without_front_blanks-short (c ∷ cs) = let on = without_front_blanks-short cs in grind (arith, on)
