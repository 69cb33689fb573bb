-- The members of a set, its squares as a rising list: none if it is empty (members_none), otherwise the first square
-- and then those of the set without it (members_first), and 64 at most (length_members). Lists gathered over them are
-- those gathered over all 64 squares, if squares outside the set give none (flat_map_members). By induction over ranges
-- of numbers, of which `squares` is one (by_range). For boards and texts of moves.
use mathlib.Core.Bool.{and-true}
use Rattle.std.proofs.Common.{◌≡◌, ℕ, zero, suc, ◌<◌, ◌≤◌, ◌+◌, inl, inr, Bool, true, false, not, ◌&&◌, ◌==◌, refl, sym, ◌∙◌, ap, arith, List, [], ◌∷◌, length}
use Rattle.std.proofs.lemmas.Bool.{cases_Bool, lt-ltb, eq-eqb, ne_eqb, cases_lt}
use Rattle.std.proofs.{lemmas.List.Sums.count_by-le-length, lemmas.List.Sums.length-filter, lemmas.Nat.Bits.bit_at-zero}
use Rattle.std.specs.List.{range_with_len, filter, flat_map}
use Rattle.chess_base.specs.Squares.{squares}
use Rattle.chess_moves.specs.Sets.{contains, IsNearest, members}

-- if none of the n numbers from a on passes, a filter keeps none of them
pub filter_none : (p : ℕ → Bool) (n a : ℕ) → ((k : ℕ) → a ≤ k → k < a + n → p k ≡ false)
    → filter p (range_with_len a n) ≡ []
filter_none p zero a h = refl
filter_none p (suc n) a h =
    rw (h a (omega arith) (omega arith)) (filter_none p n (a + 1) (λ k l m. h k (omega arith) (omega arith)))

-- two tests that agree on n numbers from a on choose the same of them
filter_same : (p q : ℕ → Bool) (n a : ℕ) → ((k : ℕ) → a ≤ k → k < a + n → p k ≡ q k)
    → filter p (range_with_len a n) ≡ filter q (range_with_len a n)
filter_same p q zero a h = refl
filter_same p q (suc n) a h =
    rw (h a (omega arith) (omega arith), filter_same p q n (a + 1) (λ k l m. h k (omega arith) (omega arith))) refl

-- if f is the first of the n numbers from a on that passes p, and q is p but for f, a filter by p keeps f and then what
-- a filter by q keeps
pub filter_first : (p q : ℕ → Bool) (f n a : ℕ) → a ≤ f → f < a + n
    → p f ≡ true
    → ((k : ℕ) → k < f → p k ≡ false)
    → ((k : ℕ) → k < 64 → q k ≡ (p k && not (k == f)))
    → a + n ≤ 64
    → filter p (range_with_len a n) ≡ f ∷ filter q (range_with_len a n)
filter_first p q f zero a low high here nearer rest fits = absurd (omega arith)
filter_first p q f (suc n) a low high here nearer rest fits =
    elim (cases_lt a f) [
      | inl before ↦
          let off : p a ≡ false = nearer a before in
          let off' : q a ≡ false = rest a (omega arith) ∙ rw off refl in
          rw (off, off') (filter_first p q f n (a + 1) (omega arith) (omega arith) here nearer rest (omega arith))
      | inr on ↦
          let same : a ≡ f = omega arith in
          let gone : q f ≡ false = rest f (omega arith) ∙ rw (here, eq-eqb f f refl) refl in
          rw (same, here, gone)
          (ap (λ xs. f ∷ xs)
          (filter_same p q n (f + 1)
          (λ k l m. sym (rest k (omega arith) ∙ rw (ne_eqb k f (omega arith)) (and-true (p k))))))
    ]

-- the squares are the range from 0 on
pub by_range : squares ≡ range_with_len 0 64
unfolding squares
by_range = refl

-- the members of a set are those of the 64 numbers from 0 on that are in it
pub of_range : (w : ℕ) → members w ≡ filter (λ k. contains w k) (range_with_len 0 64)
unfolding members
of_range w = rw by_range refl

-- the set 0 has no square
pub has_zero : (k : ℕ) → contains 0 k ≡ false
unfolding contains
has_zero k = rw (bit_at-zero k) refl

-- an empty set has no members
pub members_none : (w : ℕ) → w ≡ 0 → members w ≡ []
members_none w e = of_range w ∙ filter_none (λ k. contains w k) 64 0 (λ k l m. rw e (has_zero k))

-- if f is the first square of the set w, and v is w without f, the members of w are f and then those of v
pub members_first : (w v f : ℕ) → f < 64 → IsNearest true w f → ((k : ℕ) → k < 64 → contains v k ≡ (contains w k && not (k == f)))
    → members w ≡ f ∷ members v
members_first w v f h n rest =
    rw (of_range w, of_range v)
    (filter_first (λ k. contains w k) (λ k. contains v k) f 64 0 (omega arith) (omega arith) n.here
    (λ k l. n.nearer k (lt-ltb _ _ l)) rest (omega arith))

-- if f gives an empty list for each number that fails q, the lists of those that pass, joined, are those of all, joined
flat_map-filter : {B : Type 0} (f : ℕ → List B) (q : ℕ → Bool) (n a : ℕ)
    → ((k : ℕ) → k < a + n → q k ≡ false → f k ≡ [])
    → flat_map f (filter q (range_with_len a n)) ≡ flat_map f (range_with_len a n)
flat_map-filter f q zero a h = refl
flat_map-filter f q (suc n) a h =
    let rest : flat_map f (filter q (range_with_len (a + 1) n)) ≡ flat_map f (range_with_len (a + 1) n) =
    flat_map-filter f q n (a + 1) (λ k l e. h k (omega arith) e) in
    elim (cases_Bool (q a)) [
      | inl on ↦ rw (on, rest) refl
      | inr off ↦ rw (off, rest, h a (omega arith) off) refl
    ]

-- if f gives an empty list for each square outside the set w, the lists of its members, joined, are those of all
-- squares, joined
pub flat_map_members : {B : Type 0} (f : ℕ → List B) (w : ℕ) → ((k : ℕ) → k < 64 → contains w k ≡ false → f k ≡ [])
    → flat_map f (members w) ≡ flat_map f squares
flat_map_members f w h =
    rw (of_range w, by_range) (flat_map-filter f (λ k. contains w k) 64 0 (λ k l e. h k (omega arith) e))

-- a set has at most 64 squares
pub length_members : (w : ℕ) → length (members w) ≤ 64
unfolding members squares
length_members w =
    let all : length squares ≡ 64 = refl in
    omega (arith, all, length-filter (λ k. contains w k) squares, count_by-le-length (λ k. contains w k) squares)
