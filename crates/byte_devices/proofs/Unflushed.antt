-- A write of `Counted` passes on what the device answers, `Ok n` or a fault, and counts it: by these two cases its
-- counts change as `WriteStep` asks of a write (counted_write).
use Rattle.std.proofs.Common.{◌≡◌, ℕ, ◌<◌, ◌≤◌, ◌==◌, ◌&&◌, nat_lt, Bool, true, false, if◌then◌else◌, List, [], length, take, Option, None, Some, Result, Ok, Err, refl, sym, ap, subst, ◌∙◌, arith, append-nil, length-take-le}
use Rattle.std.proofs.{lemmas.Bool.and_parts, lemmas.Bool.Decides.nat_tests}
use Rattle.std.specs.{Io.WritesAtMost, Io.KnownBytes.Keeps, Io.KnownBytes.Appends, Io.KnownBytes.WriteAppends}
use Rattle.byte_devices.specs.{declared.counted.Counts.Counts, Devices.OutputState, Devices.WriteStep, Devices.saturating_add, ties.Counting.one_failure_more, ties.Counting.write_passed_on, ties.Counting.counts_after_write}

-- the state of an output with these known bytes and these counts
abbrev pub state_of : Option (List ℕ) → Counts → OutputState
state_of known c = record { known_bytes = known; failure_count = c.failures; unflushed = c.unflushed }

-- the device took `n` bytes: they are appended, and counted as unflushed
wrote : (F : Type 0) (a b : Option (List ℕ)) (old new : Counts) (n : ℕ) (buf : List ℕ) → n ≤ length buf
    → (0 < length buf → 0 < n) → Appends a b (take n buf)
    → new ≡ counts_after_write {E = F} old (Ok n) → WriteStep {E = F} (state_of a old) (state_of b new) (Ok n) buf
wrote F a b old new n buf within some bytes is = (
  within,
  some,
  record {
    bytes = bytes;
    failures = ap (λ c. c.failures) is;
    unflushed = ap (λ c. c.unflushed) is ∙ ap (saturating_add old.unflushed) (sym (length-take-le n buf within));
  },
)

-- the device failed: nothing is appended, and one failure more is counted
failed : {F : Type 0} (fault : F) (a b : Option (List ℕ)) (old new : Counts) (buf : List ℕ) → Appends a b []
    → new ≡ one_failure_more old
    → WriteStep {E = F} (state_of a old) (state_of b new) (Err fault) buf
failed fault a b old new buf bytes is =
    record { bytes = bytes; failures = ap (λ c. c.failures) is; unflushed = ap (λ c. c.unflushed) is }

-- bytes that stayed as they were got nothing appended
kept : (a b : Option (List ℕ)) → Keeps a b → Appends a b []
kept None b h = tt
kept (Some s) None h = absurd h
kept (Some s) (Some t) h = h ∙ sym (append-nil s)

-- either answer of the device is such a write; taking no byte of a text that isn't empty is a failure
pub counted_write : {E F : Type 0} (fault : F) (a b : Option (List ℕ)) (old new : Counts) (answered : Result ℕ E)
    (result : Result ℕ F) (buf : List ℕ)
    → WritesAtMost answered buf → WriteAppends a b answered buf → result ≡ write_passed_on fault (length buf) answered
    → new ≡ counts_after_write old result
    → WriteStep (state_of a old) (state_of b new) result buf
counted_write fault a b old new (Err e) result buf bound bytes is counts =
    subst (λ r. WriteStep (state_of a old) (state_of b new) r buf) (sym is)
    (failed fault a b old new buf (kept a b bytes) (counts ∙ ap (counts_after_write old) is))
counted_write {E = E} {F = F} fault a b old new (Ok n) result buf bound bytes is counts =
    by_test ((n == 0) && nat_lt 0 (length buf)) refl is
  where
    by_test : (t : Bool) → ((n == 0) && nat_lt 0 (length buf)) ≡ t → result ≡ (if t then Err fault else Ok n)
        → WriteStep (state_of a old) (state_of b new) result buf
    by_test true e is =
        let none : n ≡ 0 = (let both = and_parts (n == 0) (nat_lt 0 (length buf)) e in
        grind (arith, nat_tests, both)) in
        subst (λ r. WriteStep (state_of a old) (state_of b new) r buf) (sym is)
        (failed fault a b old new buf (subst (λ k. Appends a b (take k buf)) none bytes)
        (counts ∙ ap (counts_after_write old) is))
    by_test false e is =
        subst (λ r. WriteStep (state_of a old) (state_of b new) r buf) (sym is)
        (wrote F a b old new n buf bound (λ some. grind (arith, nat_tests, e, some)) bytes
        (counts ∙ ap (counts_after_write old) is))
