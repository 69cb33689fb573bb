-- Whether some legal move passes a test, if only moves to one square `to` without a promotion can pass: it is enough to
-- test one move from each square (any_by_start). The list of all moves is taken apart by start, end and promotion
-- (any-filter, any-flat_map); all parts but the move to `to` without a promotion find nothing. For texts of moves and
-- games.
use Rattle.std.proofs.Common.{◌≡◌, ◌≢◌, ℕ, zero, suc, ◌<◌, inl, inr, Bool, true, false, ◌&&◌, ◌||◌, ◌==◌, Option, Some, None, List, [], ◌∷◌, map, refl, sym, ap, ◌∙◌, arith}
use Rattle.std.proofs.{Math.Path.fun_ext, lemmas.List.Folds.list_any-append}
use Rattle.std.proofs.lemmas.Bool.{cases_Bool, and_parts, false_from_ne_true, or_left, or_right, eqb-true, eqb-false}
use Rattle.std.specs.List.{filter, flat_map, list_any}
use Rattle.chess_base.specs.{declared.man.Kind.Kind, declared.man.Move.Move, declared.setup.Setup.Setup, Moves.is_legal, Squares.squares, shared.Below.from_below}
use Rattle.chess_base.specs.declared.man.Kind.TheVariants.{Queen, Rook, Bishop, Knight}
use Rattle.chess_base.specs.MoveList.{promotions, move_of, all_moves, moves}

-- ---- over lists

-- some element that a filter keeps passes a test
pub any-filter : {A : Type 0} (q t : A → Bool) (xs : List A) → list_any t (filter q xs) ≡ list_any (λ x. q x && t x) xs
any-filter q t [] = refl
any-filter q t (x ∷ xs) =
    elim (cases_Bool (q x)) [
      | inr failed ↦ rw failed (any-filter q t xs)
      | inl passed ↦ rw passed (ap (λ b. t x || b) (any-filter q t xs))
    ]

-- some element of the lists for each element passes a test
pub any-flat_map : {A B : Type 0} (t : B → Bool) (f : A → List B) (xs : List A)
    → list_any t (flat_map f xs) ≡ list_any (λ x. list_any t (f x)) xs
any-flat_map t f [] = refl
any-flat_map t f (x ∷ xs) = list_any-append t (f x) (flat_map f xs)
    ∙ ap (λ b. list_any t (f x) || b) (any-flat_map t f xs)

-- no element passes a test that always fails
any-none : {A : Type 0} (f : A → Bool) (xs : List A) → ((x : A) → f x ≡ false) → list_any f xs ≡ false
any-none f [] h = refl
any-none f (x ∷ xs) h = rw (h x) (any-none f xs h)

-- ---- over squares

-- some element of g 0 to g (n - 1) passes a test, if g k does for a number k below n
any-from_below : (n : ℕ) (g : ℕ → ℕ) (t : ℕ → Bool) (k : ℕ) → k < n → t (g k) ≡ true
    → list_any t (from_below n g) ≡ true
any-from_below zero g t k h e = absurd (omega arith)
any-from_below (suc n) g t zero h e = or_left _ _ e
any-from_below (suc n) g t (suc k) h e = or_right _ _ (any-from_below n (λ i. g (suc i)) t k (omega arith) e)

-- this square passes a test, so one of the list of squares does
pub any-square : (t : ℕ → Bool) (k : ℕ) → k < 64 → t k ≡ true → list_any t squares ≡ true
unfolding squares
any-square t k h e = any-from_below 64 (λ s. s) t k h e

-- if no square but b passes, some square passes exactly if b does
any-alone : (f : ℕ → Bool) (b : ℕ) → b < 64 → ((k : ℕ) → k ≢ b → f k ≡ false) → list_any f squares ≡ f b
any-alone f b low away =
    elim (cases_Bool (f b)) [
      | inl on ↦ any-square f b low on ∙ sym on
      | inr off ↦ any-none f squares (λ k. elim (cases_Bool (k == b)) [
        | inl same ↦ ap f (eqb-true _ _ same) ∙ off
        | inr other ↦ away k (eqb-false _ _ other)
      ]) ∙ sym off
    ]

-- ---- over the legal moves

-- the legal moves that a test finds end on one square and promote nothing
pub record AllFound (p : Setup) (t : Move → Bool) (to : ℕ) : Type 0 where
  pub ends : (m : Move) → is_legal p m ≡ true → t m ≡ true → m.to ≡ to
  pub stays : (m : Move) → is_legal p m ≡ true → t m ≡ true → m.promotion ≡ None

-- a move is legal and passes a test
abbrev found : Setup → (Move → Bool) → Move → Bool
found p t m = is_legal p m && t m

-- a move is not found if it can't be both legal and pass
not_found : (p : Setup) (t : Move → Bool) (m : Move) → (is_legal p m ≡ true → t m ≡ true → ⊥) → found p t m ≡ false
not_found p t m h = false_from_ne_true _ (λ e. let both = and_parts _ _ e in h both.0 both.1)

-- no move to another square is found
elsewhere : (p : Setup) (t : Move → Bool) (to a b : ℕ) → AllFound p t to → b ≢ to → (k : Option Kind)
    → found p t (move_of a b k) ≡ false
elsewhere p t to a b all away k = not_found p t (move_of a b k) (λ e f. away (all.ends (move_of a b k) e f))

-- no promotion is found
promoted : (p : Setup) (t : Move → Bool) (to a : ℕ) → AllFound p t to → (k : Kind)
    → found p t (move_of a to (Some k)) ≡ false
promoted p t to a all k =
    not_found p t (move_of a to (Some k)) (λ e f. let none = all.stays (move_of a to (Some k)) e f in cc)

-- of the moves between two squares the one without a promotion decides whether some is found
between : (p : Setup) (t : Move → Bool) (to a : ℕ) → AllFound p t to
    → list_any (found p t) (map (move_of a to) promotions) ≡ (t (move_of a to None) && is_legal p (move_of a to None))
between p t to a all =
    rw (
      promoted p t to a all Queen,
      promoted p t to a all Rook,
      promoted p t to a all Bishop,
      promoted p t to a
          all Knight,
    )
    (by_one (is_legal p (move_of a to None)) (t (move_of a to None)))
  where
    by_one : (x y : Bool) → ((x && y) || false) ≡ (y && x)
    by_one x y = grind arith

-- none of the moves to another square is found
none_elsewhere : (p : Setup) (t : Move → Bool) (to a b : ℕ) → AllFound p t to → b ≢ to
    → list_any (found p t) (map (move_of a b) promotions) ≡ false
none_elsewhere p t to a b all away =
    rw (
      elsewhere p t to a b all away None,
      elsewhere p t to a b all away (Some Queen),
      elsewhere p t to a b all away (Some Rook),
      elsewhere p t to a b all away (Some Bishop),
      elsewhere p t to a b all away (Some Knight),
    ) refl

-- if a test finds only legal moves to one square `to` without a promotion, some legal move passes it exactly if one
-- without a promotion from some square to `to` is legal and passes
pub any_by_start : (p : Setup) (t : Move → Bool) (to : ℕ) → to < 64 → AllFound p t to
    → list_any (λ a. t (move_of a to None) && is_legal p (move_of a to None)) squares ≡ list_any t (moves p)
unfolding moves all_moves
any_by_start p t to low all =
    sym (any-filter (λ m. is_legal p m) t
    (flat_map (λ a. flat_map (λ b. map (move_of a b) promotions) squares) squares)
    ∙ any-flat_map (found p t) (λ a. flat_map (λ b. map (move_of a b) promotions) squares) squares
    ∙ ap (λ (f : ℕ → Bool). list_any f squares) (fun_ext (λ a. any-flat_map (found p t) (λ b. map (move_of a b) promotions) squares
    ∙ any-alone (λ b. list_any (found p t) (map (move_of a b) promotions)) to low
    (λ b away. none_elsewhere p t to a b all away)
    ∙ between p t to a all)))
