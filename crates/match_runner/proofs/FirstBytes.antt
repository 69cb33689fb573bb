-- A write of the first bytes of a text is a write of the text, since a write need not take all bytes.
use Rattle.std.proofs.Common.{◌≡◌, ◌≤◌, ◌<◌, ◌∙◌, ℕ, List, ap, length, take, min, Result, Ok, Err, subst, arith, length-take, take-take}
use Rattle.byte_devices.specs.Devices.{OutputState, Took, WriteStep}

-- `first` are at most `most` bytes of `text`, from its first on
pub first_written : {E : Type 0} (old new : OutputState) (r : Result ℕ E) (most : ℕ) (text first : List ℕ) → 0 < most
    → first ≡ take most text → WriteStep old new r first → WriteStep old new r text
first_written old new (Err e) most text first some is failed = failed
first_written old new (Ok n) most text first some is (le, goes_on, took) =
    let len : length first ≡ min most (length text) = ap (λ (t : List ℕ). length t) is ∙ length-take most text in
    let below : n ≤ most = omega (arith, le, len) in (
      omega (arith, le, len),
      λ any. goes_on (omega (arith, any, len, some)),
      subst (λ (t : List ℕ). Took old new t)
          (ap (λ (t : List ℕ). take n t) is ∙ take-take n most text below) took,
    )
