-- Where a colour has exactly one king (`has_one_king`, which counts the kings of the list), the set of its kings isn't
-- empty (some_king), since without a king on any square none would be counted (none_counted, by induction over the
-- list); and if a king is on a square, no other square has one (alone, by one_king of chess_base).
use Rattle.std.proofs.Common.{◌≡◌, ℕ, zero, suc, ◌<◌, inl, inr, Bool, true, false, ◌==◌, cond, count_by, None, List, [], ◌∷◌, length, get_or, refl, sym, ap, ◌∙◌, arith}
use Rattle.std.proofs.lemmas.Bool.{cases_Bool, eqb-true, eq-eqb, false_from_ne_true, both_ways}
use Rattle.std.proofs.lemmas.List.Sums.{sum_by-cons}
use Rattle.chess_base.specs.{declared.man.Colour.Colour, declared.man.Kind.TheVariants.King, Men.Men, Men.man_at, Men.is_man, Sound.has_one_king}
use Rattle.chess_base.proofs.shared.Kings.{one_king}
use Rattle.chess_moves.specs.Sets.{contains}
use Rattle.chess_moves.proofs.shared.Members.{has_zero}

pub none_counted : {X : Type 0} (q : X → Bool) (d : X) (xs : List X)
    → ((k : ℕ) → k < length xs → q (get_or xs k d) ≡ false) → count_by q xs ≡ 0
none_counted q d [] h = refl
none_counted q d (x ∷ xs) h =
    let first : q x ≡ false = h 0 (omega arith) in
    sum_by-cons (λ y. cond (q y) 1 0) x xs ∙ rw (first, none_counted q d xs (λ k l. h (suc k) (omega arith))) refl

-- the set w of a colour's kings is not empty
pub some_king : (men : Men) (c : Colour) (w : ℕ) → length men ≡ 64 → has_one_king men c ≡ true
    → ((k : ℕ) → k < 64 → contains w k ≡ is_man c King (man_at men k)) → 0 < w
unfolding has_one_king
some_king men c zero all one set =
    let none : count_by (λ o. is_man c King o) men ≡ 0 = none_counted (λ o. is_man c King o) None men
    (λ k l. sym (set k (omega (arith, all, l))) ∙ has_zero k) in
    let counted = eqb-true (count_by (λ o. is_man c King o) men) 1 one in
    absurd (omega (arith, none, counted))
some_king men c (suc n) all one set = omega arith

-- if a king of this colour is on f, no other square has one
pub alone : (men : Men) (c : Colour) (f : ℕ) → length men ≡ 64 → has_one_king men c ≡ true
    → is_man c King (man_at men f) ≡ true
    → (k : ℕ) → k < 64 → is_man c King (man_at men k) ≡ (k == f)
alone men c f all one here k low =
    elim (cases_Bool (is_man c King (man_at men k))) [
      | inl king ↦ king ∙ sym (eq-eqb k f (one_king men c k f all one king here))
      | inr other ↦ other ∙ sym (false_from_ne_true (k == f)
          (λ e. both_ways _ other (ap (λ s. is_man c King (man_at men s)) (eqb-true k f e) ∙ here)))
    ]
