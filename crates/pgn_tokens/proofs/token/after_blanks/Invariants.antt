-- The loop's invariant: each byte from `at` to `offset` is skipped as a token of its own, and `offset` is in the text.
-- What decreases is the number of bytes after `offset`.
use Rattle.std.proofs.Common.{◌≤◌, ◌-◌, length}
use Rattle.pgn_tokens.specs.Seen.{SkipsTo}
use Rattle.pgn_tokens.proofs.token.after_blanks.Given as goal

abbrev pub invariant-loop-offset : goal.invariant-loop-offset
invariant-loop-offset l = record {
  skips : SkipsTo l.text l.at l.offset;
  forward : l.at ≤ l.offset;
  within : l.offset ≤ length l.text;
}

abbrev pub decreases-loop-offset : goal.decreases-loop-offset
decreases-loop-offset l = length l.text - l.offset
