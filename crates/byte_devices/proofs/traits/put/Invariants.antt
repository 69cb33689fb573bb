-- The loop's invariant: the writer took the first `at` bytes of the text. The measure: the bytes from `at` on, which
-- each write makes fewer.
use Rattle.std.proofs.Common.{length, ◌-◌, ◌≤◌, take}
use Rattle.byte_devices.specs.Devices.{Took}
use Rattle.byte_devices.proofs.traits.put.Given as goal

abbrev pub invariant-loop-at : goal.invariant-loop-at
invariant-loop-at g l =
    let seen = g.W.Output.seen in
    record {
      taken : Took (seen l.fn.writer) (seen l.writer) (take l.at l.text);
      in_range : l.at ≤ length l.text;
    }

abbrev pub decreases-loop-at : goal.decreases-loop-at
decreases-loop-at g l = length l.text - l.at
