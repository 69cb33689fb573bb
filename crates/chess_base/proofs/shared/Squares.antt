-- For proofs that go over squares: a test of all 64 passes exactly if it does for each, a test of some if it does for
-- one (each_square-.., some_square-..); a list made of numbers has its length and elements (-from_below, -map_squares).
-- Shown for all numbers below n by induction over n; the squares are those below 64 (squares_are).
use Rattle.std.proofs.Common.{◌≡◌, ℕ, ◌<◌, ◌⊎◌, inl, inr, Bool, true, false, ◌&&◌, ◌||◌, refl, sym, arith, zero, suc, ◌∷◌, length, get_or, map, ap, ◌∙◌}
use Rattle.std.proofs.lemmas.Bool.{cases_Bool, and_parts, and_from, and_left, and_right, or_from, or_left, or_right}
use Rattle.std.specs.List.{list_any, list_all}
use Rattle.chess_base.specs.{Squares.squares, Squares.some_square, Squares.each_square, shared.Below.some_below, shared.Below.each_below, shared.Below.from_below}

-- a number below n + 1 is n or below n
last_or_below : (n k : ℕ) → k < suc n → (k ≡ n) ⊎ (k < n)
last_or_below n k h = grind arith

-- a test of all numbers below n passes if it does for each
pub each_below-all : (n : ℕ) (p : ℕ → Bool) → ((k : ℕ) → k < n → p k ≡ true) → each_below n p ≡ true
each_below-all zero p h = refl
each_below-all (suc n) p h = and_from _ _ (each_below-all n p (λ k l. h k (omega arith))) (h n (omega arith))

-- if all numbers below n pass a test, each does
pub each_below-at : (n : ℕ) (p : ℕ → Bool) → each_below n p ≡ true → (k : ℕ) → k < n → p k ≡ true
each_below-at zero p e k h = absurd (omega arith)
each_below-at (suc n) p e k h =
    let both = and_parts _ _ e in
    elim (last_or_below n k h) [ inl same ↦ rw same both.1 | inr less ↦ each_below-at n p both.0 k less ]

-- a number below n that passes a test is one that does
pub some_below-at : (n : ℕ) (p : ℕ → Bool) (k : ℕ) → k < n → p k ≡ true → some_below n p ≡ true
some_below-at zero p k h e = absurd (omega arith)
some_below-at (suc n) p k h e =
    elim (last_or_below n k h) [
      | inl same ↦ or_right (some_below n p) (p n) (rw (← same) e)
      | inr less ↦ or_left (some_below n p) (p n) (some_below-at n p k less e)
    ]

-- if none below n passes a test, there is none
pub some_below-none : (n : ℕ) (p : ℕ → Bool) → ((k : ℕ) → k < n → p k ≡ false) → some_below n p ≡ false
some_below-none zero p h = refl
some_below-none (suc n) p h = or_from _ _ (some_below-none n p (λ k l. h k (omega arith))) (h n (omega arith))

-- one number below n fails a test, so not all pass
pub each_below-fails : (n : ℕ) (p : ℕ → Bool) (k : ℕ) → k < n → p k ≡ false → each_below n p ≡ false
each_below-fails zero p k h e = absurd (omega arith)
each_below-fails (suc n) p k h e =
    elim (last_or_below n k h) [
      | inl same ↦ and_right (each_below n p) (p n) (rw (← same) e)
      | inr less ↦ and_left (each_below n p) (p n) (each_below-fails n p k less e)
    ]

-- the squares as numbers below 64

-- three tests joined by `or`, grouped to the right
or_onward : (a b c : Bool) → ((a || b) || c) ≡ (a || (b || c))
or_onward a b c = grind arith

-- three tests joined by `and`, grouped to the right
and_onward : (a b c : Bool) → ((a && b) && c) ≡ (a && (b && c))
and_onward a b c = grind arith

-- a test that fails may come last in an `or`
or_last : (b : Bool) → (false || b) ≡ (b || false)
or_last b = grind arith

-- a test that passes may come last in an `and`
and_last : (b : Bool) → (true && b) ≡ (b && true)
and_last b = grind arith

-- whether a number passes a test: the first, or one of the others
pub some_below-first : (n : ℕ) (p : ℕ → Bool) → some_below (suc n) p ≡ (p 0 || some_below n (λ k. p (suc k)))
some_below-first zero p = or_last (p 0)
some_below-first (suc n) p =
    ap (λ b. b || p (suc n)) (some_below-first n p) ∙ or_onward (p 0) (some_below n (λ k. p (suc k))) (p (suc n))

-- a test passes on all numbers up to n exactly if it does on 0 and, shifted by one, on all numbers below n
each_below-first : (n : ℕ) (p : ℕ → Bool) → each_below (suc n) p ≡ (p 0 && each_below n (λ k. p (suc k)))
each_below-first zero p = and_last (p 0)
each_below-first (suc n) p =
    ap (λ b. b && p (suc n)) (each_below-first n p) ∙ and_onward (p 0) (each_below n (λ k. p (suc k))) (p (suc n))

-- whether an element passes a test, in a list with one for each number below n
pub list_any-from_below : (n : ℕ) (g : ℕ → ℕ) (p : ℕ → Bool) → list_any p (from_below n g) ≡ some_below n (λ k. p (g k))
list_any-from_below zero g p = refl
list_any-from_below (suc n) g p =
    ap (λ b. p (g 0) || b) (list_any-from_below n (λ k. g (suc k)) p) ∙ sym (some_below-first n (λ k. p (g k)))

-- a test passes on the elements g 0 to g (n - 1) exactly if it passes on these for each number below n
list_all-from_below : (n : ℕ) (g : ℕ → ℕ) (p : ℕ → Bool) → list_all p (from_below n g) ≡ each_below n (λ k. p (g k))
list_all-from_below zero g p = refl
list_all-from_below (suc n) g p =
    ap (λ b. p (g 0) && b) (list_all-from_below n (λ k. g (suc k)) p) ∙ sym (each_below-first n (λ k. p (g k)))

-- the squares are the numbers below 64
pub squares_are : squares ≡ from_below 64 (λ s. s)
unfolding squares
squares_are = refl

-- a list with an element for each square
pub map_squares : {A : Type 0} (f : ℕ → A) → map f squares ≡ from_below 64 f
unfolding squares
map_squares f = refl

-- a test of some square is one of some number below 64
pub some_square_is : (p : ℕ → Bool) → some_square p ≡ some_below 64 p
unfolding some_square
some_square_is p = ap (list_any p) squares_are ∙ list_any-from_below 64 (λ s. s) p

-- a test of each square is one of each number below 64
pub each_square_is : (p : ℕ → Bool) → each_square p ≡ each_below 64 p
unfolding each_square
each_square_is p = ap (list_all p) squares_are ∙ list_all-from_below 64 (λ s. s) p

-- the same over the 64 squares

-- a test of each square passes if it does for all
pub each_square-all : (p : ℕ → Bool) → ((k : ℕ) → k < 64 → p k ≡ true) → each_square p ≡ true
each_square-all p h = each_square_is p ∙ each_below-all 64 p h

-- if each square passes a test, this one does
pub each_square-at : (p : ℕ → Bool) → each_square p ≡ true → (k : ℕ) → k < 64 → p k ≡ true
each_square-at p e k h = each_below-at 64 p (sym (each_square_is p) ∙ e) k h

-- one square fails a test, so not each passes
pub each_square-fails : (p : ℕ → Bool) (k : ℕ) → k < 64 → p k ≡ false → each_square p ≡ false
each_square-fails p k h e = each_square_is p ∙ each_below-fails 64 p k h e

-- this square passes a test, so some does
pub some_square-at : (p : ℕ → Bool) (k : ℕ) → k < 64 → p k ≡ true → some_square p ≡ true
some_square-at p k h e = some_square_is p ∙ some_below-at 64 p k h e

-- if no square passes a test, there is none
pub some_square-none : (p : ℕ → Bool) → ((k : ℕ) → k < 64 → p k ≡ false) → some_square p ≡ false
some_square-none p h = some_square_is p ∙ some_below-none 64 p h

-- of the squares that pass p, none passes q

-- two tests of which the second fails where the first passes don't both pass
guarded : (p q : Bool) → (p ≡ true → q ≡ false) → (p && q) ≡ false
guarded true q h = h refl
guarded false q h = refl

-- no square passes both of two tests that exclude each other
pub none_passes : (p q : ℕ → Bool) → ((k : ℕ) → k < 64 → p k ≡ true → q k ≡ false)
    → some_square (λ k. p k && q k) ≡ false
none_passes p q h = some_square-none (λ k. p k && q k) (λ k low. guarded _ _ (h k low))

-- x passes p, and if x fails q, so do all squares that pass p: then x decides whether some square passes both
pub one_decides : (p q : ℕ → Bool) (x : ℕ) → x < 64 → p x ≡ true
    → ((k : ℕ) → k < 64 → p k ≡ true → q x ≡ false → q k ≡ false) → q x ≡ some_square (λ k. p k && q k)
one_decides p q x h on rest =
    elim (cases_Bool (q x)) [
      | inl passes ↦ passes ∙ sym (some_square-at (λ k. p k && q k) x h (and_from _ _ on passes))
      | inr fails ↦ fails ∙ sym (none_passes p q (λ k low e. rest k low e fails))
    ]

-- two tests that agree on each square

-- tests that agree below n agree on whether all numbers below n pass
each_below_same : (n : ℕ) (p q : ℕ → Bool) → ((k : ℕ) → k < n → p k ≡ q k) → each_below n p ≡ each_below n q
each_below_same zero p q h = refl
each_below_same (suc n) p q h = rw (each_below_same n p q (λ k l. h k (omega arith)), h n (omega arith)) refl

-- tests that agree on all squares agree on each
pub each_square_same : (p q : ℕ → Bool) → ((k : ℕ) → k < 64 → p k ≡ q k) → each_square p ≡ each_square q
each_square_same p q h = each_square_is p ∙ each_below_same 64 p q h ∙ sym (each_square_is q)

-- tests that agree below n agree on whether some number below n passes
some_below_same : (n : ℕ) (p q : ℕ → Bool) → ((k : ℕ) → k < n → p k ≡ q k) → some_below n p ≡ some_below n q
some_below_same zero p q h = refl
some_below_same (suc n) p q h = rw (some_below_same n p q (λ k l. h k (omega arith)), h n (omega arith)) refl

-- tests that agree on all squares agree on some
pub some_square_same : (p q : ℕ → Bool) → ((k : ℕ) → k < 64 → p k ≡ q k) → some_square p ≡ some_square q
some_square_same p q h = some_square_is p ∙ some_below_same 64 p q h ∙ sym (some_square_is q)

-- a test by two ways, over all squares

-- of four tests joined by `or` the two in the middle may change places
swap_inner : (p q r s : Bool) → ((p || q) || (r || s)) ≡ ((p || r) || (q || s))
swap_inner p q r s = grind arith

-- some number below n passes one of two tests exactly if some passes the first or some passes the second
some_below-or : (n : ℕ) (p q : ℕ → Bool) → some_below n (λ k. p k || q k) ≡ (some_below n p || some_below n q)
some_below-or zero p q = refl
some_below-or (suc n) p q = rw (some_below-or n p q) (swap_inner (some_below n p) (some_below n q) (p n) (q n))

-- some square passes one of two tests
pub some_square-or : (p q : ℕ → Bool) → some_square (λ k. p k || q k) ≡ (some_square p || some_square q)
some_square-or p q =
    some_square_is (λ k. p k || q k) ∙ some_below-or 64 p q
    ∙ sym (ap (λ b. b || some_square q) (some_square_is p) ∙ ap (λ b. some_below 64 p || b) (some_square_is q))

-- a list with an element for each number below n has n
pub length-from_below : {A : Type 0} (n : ℕ) (f : ℕ → A) → length (from_below n f) ≡ n
length-from_below zero f = refl
length-from_below (suc n) f = ap suc (length-from_below n (λ k. f (suc k)))

-- the element for a number below n
pub get_or-from_below : {A : Type 0} (n : ℕ) (f : ℕ → A) (k : ℕ) (d : A) → k < n → get_or (from_below n f) k d ≡ f k
get_or-from_below zero f k d h = absurd (omega arith)
get_or-from_below (suc n) f zero d h = refl
get_or-from_below (suc n) f (suc k) d h = get_or-from_below n (λ j. f (suc j)) k d (omega arith)

-- lists whose elements for each number are equal
pub from_below-same : {A : Type 0} (n : ℕ) (f g : ℕ → A) → ((k : ℕ) → f k ≡ g k) → from_below n f ≡ from_below n g
from_below-same zero f g h = refl
from_below-same {A} (suc n) f g h =
    ap (λ (x : A). x ∷ from_below n (λ k. f (suc k))) (h zero)
    ∙ ap (λ xs. g zero ∷ xs) (from_below-same n (λ k. f (suc k)) (λ k. g (suc k)) (λ k. h (suc k)))

-- a list with an element for each square has 64
pub length-map_squares : {A : Type 0} (f : ℕ → A) → length (map f squares) ≡ 64
length-map_squares f = ap length (map_squares f) ∙ length-from_below 64 f

-- the element for a square
pub get_or-map_squares : {A : Type 0} (f : ℕ → A) (k : ℕ) (d : A) → k < 64 → get_or (map f squares) k d ≡ f k
get_or-map_squares f k d h = ap (λ xs. get_or xs k d) (map_squares f) ∙ get_or-from_below 64 f k d h

-- lists whose elements for each square are equal
pub map_squares-same : {A : Type 0} (f g : ℕ → A) → ((k : ℕ) → f k ≡ g k) → map f squares ≡ map g squares
map_squares-same f g h = map_squares f ∙ from_below-same 64 f g h ∙ sym (map_squares g)
