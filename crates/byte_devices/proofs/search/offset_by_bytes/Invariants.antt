-- The loop's invariant: none of the three bytes is between `from` and `offset`, so the first one from `from` on is the
-- first from `offset` on. The measure: the bytes from `offset` on.
use Rattle.std.proofs.Common.{◌≡◌, ◌≤◌, ◌+◌, ◌-◌, length, drop}
use Rattle.std.specs.List.{position_or_len}
use Rattle.byte_devices.proofs.Blocks.{is_any}
use Rattle.byte_devices.proofs.search.offset_by_bytes.Given as goal

abbrev pub invariant-loop-offset : goal.invariant-loop-offset
invariant-loop-offset l = record {
  within : l.offset ≤ length l.bytes;
  none : l.offset + position_or_len (is_any l.a l.b l.c) (drop l.offset l.bytes)
      ≡ l.from + position_or_len (is_any l.a l.b l.c) (drop l.from l.bytes);
}

abbrev pub decreases-loop-offset : goal.decreases-loop-offset
decreases-loop-offset l = length l.bytes - l.offset
