-- For tables of bytes, such as one with a class for each of the 256 bytes: that a table agrees with a definition is
-- computed for all bytes at once (agree_below), and then holds for each (class_by_test), by induction over the bytes
-- below 256.
use Rattle.std.proofs.Common.{◌≡◌, ℕ, zero, suc, ◌<◌, Bool, true, false, ◌&&◌, nat_eq, get_or, List, refl, arith, inl, inr}
use Rattle.std.specs.Bool.{beq}
use Rattle.std.proofs.lemmas.Bool.{cases_eq}

-- the two tests agree below n
unfoldable pub agree_below : (ℕ → Bool) → (ℕ → Bool) → ℕ → Bool
agree_below f g zero = true
agree_below f g (suc n) = beq (f n) (g n) && agree_below f g n

-- a list of equal tests that passes: the first test's two values are equal, and the rest passes
both_of : (x y rest : Bool) → (beq x y && rest) ≡ true → (x ≡ y) × (rest ≡ true)
both_of true true rest h = (refl, h)
both_of true false rest h = cc
both_of false true rest h = cc
both_of false false rest h = (refl, h)

-- two tests that agree on each number below n, which is computed, agree on one of them
agree_at : (f g : ℕ → Bool) (n : ℕ) → agree_below f g n ≡ true → (b : ℕ) → b < n → f b ≡ g b
unfolding agree_below
agree_at f g zero h b lt = absurd (omega arith)
agree_at f g (suc n) h b lt =
    let both = both_of (f n) (g n) (agree_below f g n) h in
    elim (cases_eq b n) [ inl same ↦ rw same both.0 | inr other ↦ agree_at f g n both.1 b (omega arith) ]

-- a byte's class in a table is `class` where a test says so
pub class_by_test : (table : List ℕ) (class : ℕ) (test : ℕ → Bool) (b : ℕ) → b < 256
    → agree_below (λ k. nat_eq (get_or table k 0) class) test 256 ≡ true → nat_eq (get_or table b 0) class ≡ test b
class_by_test table class test b lt h = agree_at _ _ 256 h b lt
