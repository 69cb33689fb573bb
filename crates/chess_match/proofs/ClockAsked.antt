-- `ClockReadings` holds of no reading (`asked_none`), of one (`asked_one`), and of some readings and then others
-- (`asked_more`): the moments shown are, in order, those that the clock was known to give. A reading of the second run
-- is counted on from the end of the first (`shown_at`).
use Rattle.std.proofs.Common.{◌≡◌, ℕ, zero, suc, ◌+◌, ◌<◌, List, [], ◌∷◌, ◌++◌, length, ap, sym, ◌∙◌, arith, length-append, subst, Option, Some, None, zero-add, slice_get, IfSome}
use Rattle.chess_match.specs.Run.{ClockReadings}

-- if `Q` follows from `P` for each value, so it does for a value that may be missing (of `None` nothing is said)
some_of : {P Q : ℕ → Type 0} (o : Option ℕ) → ((t : ℕ) → P t → Q t) → IfSome o P → IfSome o Q
some_of None f h = h
some_of (Some t) f h = f t h

-- without a reading no moment was shown
pub asked_none : (coming : ℕ → Option ℕ) → ClockReadings coming coming []
asked_none coming = record { known = λ n h. absurd (omega (arith, h)); rest = λ n. ap coming (sym (zero-add n)) }

-- of one reading only the one with number 0 is known, and it showed this moment
first_shown : (coming : ℕ → Option ℕ) (moment n : ℕ) → IfSome (coming 0) (λ t. moment ≡ t) → n < 1
    → IfSome (coming n) (λ t. slice_get (moment ∷ []) n ≡ Some t)
first_shown coming moment zero h few = some_of (coming 0) (λ t e. ap Some e) h
first_shown coming moment (suc n) h few = absurd (omega (arith, few))

-- one reading showed one moment, the known one if it was known
pub asked_one : (coming coming' : ℕ → Option ℕ) (moment : ℕ) → IfSome (coming 0) (λ t. moment ≡ t)
    → ((n : ℕ) → coming' n ≡ coming (n + 1)) → ClockReadings coming coming' (moment ∷ [])
asked_one coming coming' moment h rest = record {
  known = λ n few. first_shown coming moment n h few;
  rest = λ n. let e : n + 1 ≡ 1 + n = omega arith in rest n ∙ ap coming e;
}

-- the n-th of the readings `xs` and then `ys`: one of `xs`, or one of `ys`, counted from where `xs` end
shown_at : (xs ys : List ℕ) (c c' : ℕ → Option ℕ) (n : ℕ)
    → ((k : ℕ) → k < length xs → IfSome (c k) (λ t. slice_get xs k ≡ Some t))
    → ((k : ℕ) → k < length ys → IfSome (c' k) (λ t. slice_get ys k ≡ Some t))
    → ((k : ℕ) → c' k ≡ c (length xs + k)) → n < length (xs ++ ys) → IfSome (c n) (λ t. slice_get (xs ++ ys) n ≡ Some t)
shown_at [] ys c c' n a b e h = let same : c' n ≡ c n = e n ∙ ap c (zero-add n) in
    subst (λ o. IfSome o (λ t. slice_get ys n ≡ Some t)) same (b n h)
shown_at (x ∷ xs) ys c c' zero a b e h = a zero (omega arith)
shown_at (x ∷ xs) ys c c' (suc n) a b e h =
    shown_at xs ys (λ k. c (suc k)) c' n (λ k f. a (suc k) (omega (arith, f))) b
    (λ k. let s : length (x ∷ xs) + k ≡ suc (length xs + k) = omega arith in e k ∙ ap c s) (omega (arith, h))

-- the readings `xs` and then `ys` are the readings `xs ++ ys`
pub asked_more : (c c' c'' : ℕ → Option ℕ) (xs ys : List ℕ) → ClockReadings c c' xs → ClockReadings c' c'' ys
    → ClockReadings c c'' (xs ++ ys)
asked_more c c' c'' xs ys a b = record {
  known = λ n h. shown_at xs ys c c' n a.known b.known a.rest h;
  rest = λ n. let s : length xs + (length ys + n) ≡ length (xs ++ ys) + n = omega (arith, length-append xs ys) in
      b.rest n ∙ a.rest (length ys + n) ∙ ap c s;
}
