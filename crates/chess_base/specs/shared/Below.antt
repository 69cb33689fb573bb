-- Tests of all numbers below a number, and lists with an element for each: for proofs by induction.
use Rattle.std.specs.Prelude.{ℕ, zero, suc, Bool, true, false, ◌&&◌, ◌||◌, List, [], ◌∷◌}

-- p holds for some number from 0 to n - 1
abbrev pub some_below : ℕ → (ℕ → Bool) → Bool
some_below zero p = false
some_below (suc n) p = some_below n p || p n

-- p holds for each number from 0 to n - 1
abbrev pub each_below : ℕ → (ℕ → Bool) → Bool
each_below zero p = true
each_below (suc n) p = each_below n p && p n

-- the list of n elements f 0, f 1, up to f (n - 1)
abbrev pub from_below : {A : Type 0} → ℕ → (ℕ → A) → List A
from_below zero f = []
from_below (suc n) f = f 0 ∷ from_below n (λ k. f (suc k))
