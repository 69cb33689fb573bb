-- For a test t on numbers: the latest number below n that passes, plus one, or 0 if none does (`latest_below`), and how
-- many pass (`count_below`). Here by induction over n: both are at most n (_low), are the same for tests that agree
-- below n (_alike), and from n to n + 1 change only if n passes (_here, _fails). And no number after the latest that
-- passes t passes a test that only such numbers pass (skipped).
use Rattle.std.proofs.Common.{◌≡◌, ◌∙◌, ℕ, zero, suc, ◌+◌, ◌<◌, ◌≤◌, Bool, true, false, cond, if◌then◌else◌, refl, sym, ap, subst, arith, true≢false}
use Rattle.chess_game.specs.ties.Buckets.{latest_below, count_below}

-- the result of `latest_below` for n is at most n
pub latest_low : (t : ℕ → Bool) (n : ℕ) → latest_below t n ≤ n
unfolding latest_below
latest_low t zero = omega arith
latest_low t (suc n) = by_test (t n) (latest_low t n)
  where
    by_test : (b : Bool) → latest_below t n ≤ n → (if b then suc n else latest_below t n) ≤ suc n
    by_test true h = omega arith
    by_test false h = omega arith

-- if the result is k + 1, the number k passes
pub latest_passes : (t : ℕ → Bool) (n k : ℕ) → latest_below t n ≡ suc k → t k ≡ true
unfolding latest_below
latest_passes t zero k e = absurd (omega (arith, e))
latest_passes t (suc n) k e = by_test (t n) refl (latest_passes t n k) e
  where
    by_test : (b : Bool) → t n ≡ b → (latest_below t n ≡ suc k → t k ≡ true)
        → (if b then suc n else latest_below t n) ≡ suc k → t k ≡ true
    by_test true h rest is = let here : n ≡ k = omega (arith, is) in subst (λ j. t j ≡ true) here h
    by_test false h rest is = rest is

-- tests that agree below n have the same latest number
pub latest_alike : (s t : ℕ → Bool) (n : ℕ) → ((k : ℕ) → k < n → s k ≡ t k) → latest_below s n ≡ latest_below t n
unfolding latest_below
latest_alike s t zero h = refl
latest_alike s t (suc n) h =
    ap (λ b. if b then suc n else latest_below s n) (h n (omega arith))
    ∙ ap (λ (v : ℕ). if t n then suc n else v) (latest_alike s t n (λ k l. h k (omega arith)))

-- a last number that fails changes nothing
pub latest_fails : (t : ℕ → Bool) (n : ℕ) → t n ≡ false → latest_below t (suc n) ≡ latest_below t n
unfolding latest_below
latest_fails t n e = ap (λ b. if b then suc n else latest_below t n) e

-- one that passes is the latest
pub latest_here : (t : ℕ → Bool) (n : ℕ) → t n ≡ true → latest_below t (suc n) ≡ suc n
unfolding latest_below
latest_here t n e = ap (λ b. if b then suc n else latest_below t n) e

pub count_low : (t : ℕ → Bool) (n : ℕ) → count_below t n ≤ n
unfolding count_below
count_low t zero = omega arith
count_low t (suc n) = by_test (t n) (count_low t n)
  where
    by_test : (b : Bool) → count_below t n ≤ n → count_below t n + cond b 1 0 ≤ suc n
    by_test true h = omega arith
    by_test false h = omega arith

-- tests that agree below n have the same count
pub count_alike : (s t : ℕ → Bool) (n : ℕ) → ((k : ℕ) → k < n → s k ≡ t k) → count_below s n ≡ count_below t n
unfolding count_below
count_alike s t zero h = refl
count_alike s t (suc n) h =
    ap (λ b. count_below s n + cond b 1 0) (h n (omega arith))
    ∙ ap (λ (v : ℕ). v + cond (t n) 1 0) (count_alike s t n (λ k l. h k (omega arith)))

pub count_here : (t : ℕ → Bool) (n : ℕ) → t n ≡ true → count_below t (suc n) ≡ suc (count_below t n)
unfolding count_below
count_here t n e =
    let one : count_below t n + cond (t n) 1 0 ≡ count_below t n + 1 = ap (λ b. count_below t n + cond b 1 0) e in
    omega (arith, one)

pub count_fails : (t : ℕ → Bool) (n : ℕ) → t n ≡ false → count_below t (suc n) ≡ count_below t n
unfolding count_below
count_fails t n e =
    let none : count_below t n + cond (t n) 1 0 ≡ count_below t n + 0 = ap (λ b. count_below t n + cond b 1 0) e in
    omega (arith, none)

pub count_none : (t : ℕ → Bool) (n : ℕ) → ((k : ℕ) → k < n → t k ≡ false) → count_below t n ≡ 0
unfolding count_below
count_none t zero h = refl
count_none t (suc n) h = count_fails t n (h n (omega arith)) ∙ count_none t n (λ k l. h k (omega arith))

-- how many of the numbers 0 to n pass: 1 or 0 for the number 0, and those after it
pub count_first : (t : ℕ → Bool) (n : ℕ) → count_below t (suc n) ≡ cond (t 0) 1 0 + count_below (λ k. t (suc k)) n
unfolding count_below
count_first t zero = omega arith
count_first t (suc n) = let rest = count_first t n in omega (arith, rest)

-- if only numbers that pass t pass s, none after the latest one of t passes s
pub skipped : (s t : ℕ → Bool) (n : ℕ) → ((k : ℕ) → k < n → s k ≡ true → t k ≡ true)
    → count_below s n ≡ count_below s (latest_below t n)
unfolding latest_below
skipped s t zero h = refl
skipped s t (suc n) h = by_test (t n) refl (s n) refl (skipped s t n (λ k l. h k (omega arith)))
  where
    by_test : (b : Bool) → t n ≡ b → (c : Bool) → s n ≡ c → count_below s n ≡ count_below s (latest_below t n)
        → count_below s (suc n) ≡ count_below s (if b then suc n else latest_below t n)
    by_test true e c f rest = refl
    by_test false e true f rest = absurd (true≢false (sym (h n (omega arith) f) ∙ e))
    by_test false e false f rest = count_fails s n f ∙ rest
