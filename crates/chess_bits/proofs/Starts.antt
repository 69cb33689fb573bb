-- What `take_first` does to a set w with the members s and then those of v: w has the squares of v, and s
-- (taken_first); s is not in v (first_gone), and is a square of w (first_in). A set without members has no square
-- (none_left). Members are a filter of the numbers 0 to 63, so all is shown by induction over ranges.
use Rattle.std.proofs.Common.{◌≡◌, ℕ, zero, suc, ◌<◌, ◌≤◌, ◌+◌, inl, inr, Bool, true, false, ◌||◌, ◌==◌, List, [], ◌∷◌, refl, sym, ap, ◌∙◌, arith}
use Rattle.std.specs.List.{filter, range_with_len}
use Rattle.std.proofs.lemmas.Bool.{cases_Bool, cases_lt, eq-eqb, ne_eqb}
use Rattle.chess_base.specs.Squares.{squares}
use Rattle.chess_moves.specs.Sets.{contains, members}
use Rattle.chess_bits.proofs.Listed.{each_first, each_member}

-- k is in the list
abbrev is_in : ℕ → List ℕ → Bool
is_in k [] = false
is_in k (x ∷ xs) = (x == k) || is_in k xs

-- of the n numbers from a on, the list has those that pass p: none below a, and each of these exactly if it passes
none_below : (p : ℕ → Bool) (k n a : ℕ) → k < a → is_in k (filter p (range_with_len a n)) ≡ false
none_below p k zero a h = refl
none_below p k (suc n) a h =
    let rest = none_below p k n (a + 1) (omega (arith, h)) in
    elim (cases_Bool (p a)) [
      | inl here ↦ rw (here, ne_eqb a k (omega (arith, h))) rest
      | inr away ↦ rw away rest
    ]

within : (p : ℕ → Bool) (k n a : ℕ) → a ≤ k → k < a + n → is_in k (filter p (range_with_len a n)) ≡ p k
within p k zero a low high = absurd (omega (arith, low, high))
within p k (suc n) a low high =
    elim (cases_lt a k) [
      | inl before ↦
          let rest = within p k n (a + 1) (omega (arith, before)) (omega (arith, high)) in
          elim (cases_Bool (p a)) [
            | inl here ↦ rw (here, ne_eqb a k (omega (arith, before))) rest
            | inr away ↦ rw away rest
          ]
      | inr on ↦
          let same : a ≡ k = omega (arith, low, on) in
          let rest : is_in k (filter p (range_with_len (k + 1) n)) ≡ false = none_below p k n (k + 1) (omega arith) in
          rw same
          (elim (cases_Bool (p k)) [
            | inl here ↦ rw (here, eq-eqb k k refl) refl
            | inr away ↦ rw away rest
          ])
    ]

-- the first of the list is not among the others
head_once : (p : ℕ → Bool) (n a s : ℕ) (ns : List ℕ) → filter p (range_with_len a n) ≡ s ∷ ns → is_in s ns ≡ false
head_once p zero a s ns e = cc
head_once p (suc n) a s ns e =
    elim (cases_Bool (p a)) [
      | inl here ↦
          let two : (a ∷ filter p (range_with_len (a + 1) n)) ≡ (s ∷ ns) = rw here at e in
          heads a s (filter p (range_with_len (a + 1) n)) ns two (none_below p a n (a + 1) (omega arith))
      | inr away ↦ head_once p n (a + 1) s ns (rw away at e)
    ]
  where
    heads : (x y : ℕ) (xs ys : List ℕ) → (x ∷ xs) ≡ (y ∷ ys) → is_in x xs ≡ false → is_in y ys ≡ false
    heads x y xs ys e h = cc

-- k is a member of a set exactly if the set has square k
is_in-members : (w k : ℕ) → k < 64 → is_in k (members w) ≡ contains w k
unfolding members squares
is_in-members w k low = within (λ x. contains w x) k 64 0 (omega arith) (omega (arith, low))

-- if the members of w are s and then those of v, w has just the squares of v, and s
pub taken_first : (w v s k : ℕ) → k < 64 → members w ≡ s ∷ members v → contains w k ≡ ((s == k) || contains v k)
taken_first w v s k low e =
    sym (is_in-members w k low) ∙ ap (is_in k) e ∙ ap (λ t. (s == k) || t) (is_in-members v k low)

-- if the members of w are s and then those of v, s is not in v
pub first_gone : (w v s : ℕ) → s < 64 → members w ≡ s ∷ members v → contains v s ≡ false
unfolding members squares
first_gone w v s low e = sym (is_in-members v s low) ∙ head_once (λ x. contains w x) 64 0 s (members v) e

-- the first member is a square of the set
pub first_in : (w v s : ℕ) → members w ≡ s ∷ members v → (s < 64) × (contains w s ≡ true)
first_in w v s e =
    each_first (λ k. (k < 64) × (contains w k ≡ true)) _ s _ e
    (each_member w (λ k. (k < 64) × (contains w k ≡ true)) (λ k low on. (low, on)))

-- no square is in a set without members
pub none_left : (w k : ℕ) → k < 64 → members w ≡ [] → contains w k ≡ false
none_left w k low e = sym (is_in-members w k low) ∙ ap (is_in k) e
