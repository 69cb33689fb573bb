-- A text is empty exactly if its length is 0; and where the bytes of lines are not empty, there is a line.
use Rattle.std.proofs.Common.{◌≡◌, ◌≢◌, ◌<◌, ℕ, Bool, true, false, List, [], ◌∷◌, length, refl, sym, ◌∙◌, arith, eqb-true, ◌==◌}
use Rattle.std.proofs.lemmas.List.{nil_from_length}
use Rattle.chess_match.specs.Lines.{SentLine, bytes_of}

pub is_nil : (text : List ℕ) (b : Bool) → b ≡ (length text == 0) → b ≡ true → text ≡ []
is_nil text b e h = nil_from_length text (eqb-true (length text) 0 (sym e ∙ h))

pub is_some_text : (text : List ℕ) (b : Bool) → b ≡ (length text == 0) → b ≡ false → text ≢ []
is_some_text [] b e h n = cc
is_some_text (c ∷ text) b e h n = cc

pub some_lines : (lines : List SentLine) → bytes_of lines ≢ [] → 0 < length lines
unfolding bytes_of
some_lines [] some = absurd (some refl)
some_lines (l ∷ ls) some = omega arith
