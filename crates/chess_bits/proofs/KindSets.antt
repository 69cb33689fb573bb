-- The sets of a colour's six kinds stay right when a piece is put on an empty square, lifted, or moved (put_kinds,
-- lift_kinds, shift_kinds): the set of its kind changes by its squares, the others stay, by cases of kind and square.
-- And the attackers that the sets before a move give for the board after it are right once the squares that it changes
-- are left out (left_out).
use mathlib.Core.Bool.{and-true, and-false, or-true, or-false}
use Rattle.std.proofs.Common.{◌≡◌, ℕ, ◌<◌, inl, inr, false, not, ◌&&◌, ◌||◌, ◌==◌, refl, sym, ap, ◌∙◌, arith, Option, Some, None, List, length, length-set, subst, get_or, set, get_or-set_same, get_or-set_other}
use Rattle.std.proofs.lemmas.Bool.{and_left, and_right, cases_Bool, eq-eqb, ne_eqb, cases_eq}
use Rattle.std.proofs.lemmas.List.{get_or_default}
use Rattle.chess_base.specs.{declared.man.Colour.Colour, declared.man.Kind.Kind, declared.man.Man.Man, Attacks.attacks, shared.Parts.kind_number}
use Rattle.chess_base.specs.declared.man.Kind.TheVariants.{King, Queen, Rook, Bishop, Knight, Pawn}
use Rattle.chess_base.specs.Men.{Men, man_at, is_man, is_of, same_colour}
use Rattle.chess_base.proofs.shared.Men.{same_colour-self, same_kind-self, same_kind_by_number, is_man-none}
use Rattle.chess_moves.specs.Sets.{contains}
use Rattle.chess_bits.specs.{ties.Occupancy.IsLater, ties.KindSets.AreKindsAt, ties.KindSets.IsKinds}
use Rattle.chess_bits.proofs.BoardSets.{set_twice, still_empty}

kind_below : (x : Kind) → kind_number x < 6
kind_below King = omega arith
kind_below Queen = omega arith
kind_below Rook = omega arith
kind_below Bishop = omega arith
kind_below Knight = omega arith
kind_below Pawn = omega arith

-- a piece of kind x is of kind y exactly if the kinds' numbers are equal
own_man : (c : Colour) (x y : Kind) → is_man c y (Some (record { colour = c; kind = x }))
    ≡ (kind_number y == kind_number x)
unfolding is_man
own_man c x y = rw (same_colour-self c) (same_kind_by_number y x)

-- on square k the set of kind y is right after the set of kind x was written (w), and square s of the board (o), if w
-- is right on s and as before elsewhere, and s changes for kind x alone
written_at : (sets : List ℕ) (men : Men) (c : Colour) (x y : Kind) (s k w : ℕ) (o : Option Man)
    → length sets ≡ 6 → length men ≡ 64 → s < 64 → k < 64 → IsKinds sets c men
    → (kind_number y ≡ kind_number x → contains w s ≡ is_man c y o)
    → ((kind_number y ≡ kind_number x → ⊥) → is_man c y (man_at men s) ≡ is_man c y o)
    → ((k ≡ s → ⊥) → contains w k ≡ contains (get_or sets (kind_number x) 0) k)
    → contains (get_or (set sets (kind_number x) w) (kind_number y) 0) k ≡ is_man c y (get_or (set men s o) k None)
written_at sets men c x y s k w o six all ls lk h here others away =
    let in_sets : kind_number x < length sets = let b = kind_below x in omega arith in
    let in_men : s < length men = omega arith in
    elim (cases_eq k s) [
      | inl same ↦
          rw (same, get_or-set_same)
          (elim (cases_eq (kind_number y) (kind_number x)) [
            | inl e ↦ rw (e, get_or-set_same) (here e)
            | inr n ↦ rw (get_or-set_other sets (kind_number x) (kind_number y) w 0 n) (h.of_kind y s ls ∙ others n)
          ])
      | inr apart ↦
          rw (get_or-set_other men s k o None apart)
          (elim (cases_eq (kind_number y) (kind_number x)) [
            | inl e ↦ rw (e, get_or-set_same, away apart, ← e) (h.of_kind y k lk)
            | inr n ↦ rw (get_or-set_other sets (kind_number x) (kind_number y) w 0 n) (h.of_kind y k lk)
          ])
    ]

-- a piece is put on the empty square s: the set of its kind gets s
pub put_kinds : (sets : List ℕ) (men : Men) (c : Colour) (x : Kind) (s w d : ℕ)
    → length sets ≡ 6 → length men ≡ 64 → s < 64 → man_at men s ≡ None
    → IsKinds sets c men
    → ((j : ℕ) → contains w j ≡ (contains (get_or sets (kind_number x) d) j || (j == s)))
    → IsKinds (set sets (kind_number x) w) c (set men s (Some (record { colour = c; kind = x })))
put_kinds sets men c x s w d six all ls bare h made =
    let in_sets : kind_number x < length sets = let b = kind_below x in omega arith in
    record {
      of_kind = λ y k lk.
          written_at sets men c x y s k w (Some (record { colour = c; kind = x })) six all ls lk h
          (λ e. made s ∙ rw (eq-eqb s s refl) (or-true _)
          ∙ sym (own_man c x y ∙ eq-eqb (kind_number y) (kind_number x) e))
          (λ n. ap (is_man c y) bare ∙ is_man-none c y None refl
          ∙ sym (own_man c x y ∙ ne_eqb (kind_number y) (kind_number x) n))
          (λ apart. made k ∙ rw (ne_eqb k s apart, get_or_default sets (kind_number x) d 0 in_sets) (or-false _));
    }

-- a piece is lifted from s: the set of its kind loses s
pub lift_kinds : (sets : List ℕ) (men : Men) (c : Colour) (x : Kind) (s w d : ℕ)
    → length sets ≡ 6 → length men ≡ 64 → s < 64 → man_at men s ≡ Some (record { colour = c; kind = x })
    → IsKinds sets c men
    → ((j : ℕ) → j < 64 → contains w j ≡ (contains (get_or sets (kind_number x) d) j && not (j == s)))
    → IsKinds (set sets (kind_number x) w) c (set men s None)
lift_kinds sets men c x s w d six all ls there h made =
    let in_sets : kind_number x < length sets = let b = kind_below x in omega arith in
    record {
      of_kind = λ y k lk.
          let none : is_man c y None ≡ false = is_man-none c y None refl in
          written_at sets men c x y s k w None six all ls lk h
          (λ e. made s ls ∙ rw (eq-eqb s s refl) (and-false _) ∙ sym none)
          (λ n. ap (is_man c y) there ∙ own_man c x y ∙ ne_eqb (kind_number y) (kind_number x) n ∙ sym none)
          (λ apart. made k lk ∙ rw (ne_eqb k s apart, get_or_default sets (kind_number x) d 0 in_sets) (and-true _));
    }

-- a piece goes from a to the empty square b: the set of its kind loses a and gets b
pub shift_kinds : (sets : List ℕ) (men : Men) (c : Colour) (x : Kind) (a b v w d : ℕ)
    → length sets ≡ 6 → length men ≡ 64 → a < 64 → b < 64 → man_at men a ≡ Some (record { colour = c; kind = x })
    → man_at men b ≡ None → IsKinds sets c men
    → ((j : ℕ) → j < 64 → contains v j ≡ (contains (get_or sets (kind_number x) d) j && not (j == a)))
    → ((j : ℕ) → contains w j ≡ (contains v j || (j == b)))
    → IsKinds (set sets (kind_number x) w) c (set (set men a None) b (Some (record { colour = c; kind = x })))
shift_kinds sets men c x a b v w d six all la lb there bare h lifted put =
    let in_sets : kind_number x < length sets = let low = kind_below x in omega arith in
    let long : length (set sets (kind_number x) v) ≡ 6 = length-set sets (kind_number x) v ∙ six in
    let whole : length (set men a None) ≡ 64 = length-set men a None ∙ all in
    subst (λ s. IsKinds s c (set (set men a None) b (Some (record { colour = c; kind = x }))))
    (set_twice sets (kind_number x) v w)
    (put_kinds (set sets (kind_number x) v) (set men a None) c x b w 0 long whole lb (still_empty men a b all la bare)
    (lift_kinds sets men c x a v d six all la there h lifted)
    (λ j. put j ∙ ap (λ u. contains u j || (j == b)) (sym (get_or-set_same sets (kind_number x) v 0 in_sets))))

-- ---- the pieces left out on some squares

nobody_there : (c : Colour) (o : Option Man) → ((kind : Kind) → is_man c kind o ≡ false) → is_of c o ≡ false
unfolding is_of is_man
nobody_there c None h = refl
nobody_there c (Some x) h =
    sym (ap (λ t. same_colour c x.colour && t) (same_kind-self x.kind) ∙ and-true (same_colour c x.colour)) ∙ h x.kind

-- the sets are those before a move. The attackers (a) that they give for the board after it are right on the squares
-- that it does not change, and on the others there is no such piece; so without these they are right (w)
pub left_out : (sets : List ℕ) (changed filled a w : ℕ) (c : Colour) (men later : Men) (square : ℕ)
    → IsKinds sets c men → IsLater changed filled c men later
    → ((k : ℕ) → k < 64 → AreKindsAt sets c later k → contains a k ≡ (is_of c (man_at later k) && attacks later k square))
    → ((k : ℕ) → k < 64 → contains w k ≡ (contains a k && not (contains changed k)))
    → (k : ℕ) → k < 64 → contains w k ≡ (is_of c (man_at later k) && attacks later k square)
left_out sets changed filled a w c men later square h after attackers without k low =
    elim (cases_Bool (contains changed k)) [
      | inl gone ↦
          let none : is_of c (man_at later k) ≡ false =
          nobody_there c (man_at later k)
          (λ kind. sym (after.of_man kind k low)
          ∙ and_right (is_man c kind (man_at men k)) (not (contains changed k)) (ap not gone)) in
          without k low ∙ and_right (contains a k) (not (contains changed k)) (ap not gone)
          ∙ sym (and_left (is_of c (man_at later k)) (attacks later k square) none)
      | inr stays ↦
          without k low ∙ ap (λ t. contains a k && not t) stays ∙ and-true (contains a k)
          ∙ attackers k low
          (λ kind. h.of_kind kind k low ∙ sym (and-true (is_man c kind (man_at men k)))
          ∙ ap (λ t. is_man c kind (man_at men k) && not t) (sym stays)
          ∙ after.of_man kind k low)
    ]
