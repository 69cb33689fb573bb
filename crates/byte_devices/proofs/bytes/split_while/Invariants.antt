-- The loop's invariant: all bytes before `end` pass the test, so the bytes that pass at the text's front are these and
-- those that pass from `end` on. The measure: the bytes from `end` on.
use Rattle.std.proofs.Common.{◌≡◌, ◌+◌, ◌-◌, ◌<◌, ◌≤◌, ℕ, Bool, length, drop}
use Rattle.std.specs.List.{prefix_len}
use Rattle.byte_devices.proofs.bytes.split_while.Given as goal

abbrev pub invariant-loop-end : goal.invariant-loop-end
invariant-loop-end g l = (l.end ≤ length l.text)
    × ((p : ℕ → Bool) → ((byte : ℕ) → byte < 256 → (r : Bool) → goal.F-post g l.test byte r → r ≡ p byte)
    → l.end + prefix_len p (drop l.end l.text) ≡ prefix_len p l.text)

abbrev pub decreases-loop-end : goal.decreases-loop-end
decreases-loop-end g l = length l.text - l.end
