-- The loop's invariant: `at`, the offset of the next game, is in the text. The measure: the bytes from `at` on, of
-- which each game takes some.
use Rattle.std.proofs.Common.{◌≤◌, ◌-◌, length}
use Rattle.workloads.proofs.games.read_games.Given as goal

abbrev pub invariant-loop-end : goal.invariant-loop-end
invariant-loop-end g l = l.at ≤ length l.text

abbrev pub decreases-loop-end : goal.decreases-loop-end
decreases-loop-end g l = length l.text - l.at
