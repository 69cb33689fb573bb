-- When the piece on one square a is taken off the board (`lifted`): a is empty and all other squares are as before
-- (lifted_at); so the sets of the colour that had no piece there stay (lifted_kinds), and the occupied squares lose a
-- (lifted_occupied).
use mathlib.Core.Bool.{and-false, and-true}
use Rattle.std.proofs.Common.{◌≡◌, ℕ, ◌<◌, inl, inr, Bool, true, false, not, ◌&&◌, ◌==◌, cond, List, Option, None, is_none, length, get_or-set_same, get_or-set_other, refl, sym, ap, ◌∙◌, arith}
use Rattle.std.proofs.lemmas.Bool.{cases_eq, eq-eqb, ne_eqb}
use Rattle.chess_base.specs.{declared.man.Colour.Colour, declared.man.Man.Man, Men.Men, Men.man_at, Men.is_of}
use Rattle.chess_moves.specs.Sets.{contains}
use Rattle.chess_bits.specs.{ties.Goes.lifted, ties.KindSets.IsKinds, ties.Occupancy.IsOccupied}
use Rattle.chess_bits.proofs.BoardSets.{kinds_kept, none_of}

pub lifted_at : (men : Men) (a k : ℕ) → length men ≡ 64 → a < 64
    → man_at (lifted men a) k ≡ cond (k == a) None (man_at men k)
lifted_at men a k all low =
    let inside : a < length men = omega (arith, all, low) in
    elim (cases_eq k a) [
      | inl here ↦ rw (here, get_or-set_same, eq-eqb a a refl) refl
      | inr away ↦ rw (get_or-set_other men a k None None away, ne_eqb k a away) refl
    ]

-- with the piece on a taken off, the sets of the kinds of colour c stay right, if no piece of colour c is on a
pub lifted_kinds : (sets : List ℕ) (men : Men) (c : Colour) (a : ℕ) → length men ≡ 64 → a < 64
    → is_of c (man_at men a) ≡ false → IsKinds sets c men → IsKinds sets c (lifted men a)
lifted_kinds sets men c a all low theirs = kinds_kept sets men c a None all low theirs (none_of c None refl)

-- with the piece on a taken off, the occupied squares are the same, but for a
pub lifted_occupied : (w v : ℕ) (men : Men) (a : ℕ) → length men ≡ 64 → a < 64 → IsOccupied w men
    → ((k : ℕ) → k < 64 → contains v k ≡ (contains w k && not (k == a))) → IsOccupied v (lifted men a)
lifted_occupied w v men a all low stood h = record {
  of_men = λ k l.
      h k l ∙ ap (λ t. t && not (k == a)) (stood.of_men k l) ∙ by (k == a) (man_at men k)
      ∙ sym (ap (λ o. not (is_none o)) (lifted_at men a k all low));
}
  where
    by : (t : Bool) (o : Option Man) → (not (is_none o) && not t) ≡ not (is_none (cond t None o))
    by true o = and-false (not (is_none o))
    by false o = and-true (not (is_none o))
