-- The loop's invariant: `number` is a square of the line, and all between `low` and it are empty (IsWalkedTo of
-- ClearLines). The measure is how far `number` is below `end`.
use Rattle.std.proofs.Common.{◌-◌}
use Rattle.chess_base.proofs.ClearLines.{IsWalkedTo}
use Rattle.chess_base.proofs.line.is_clear_above.Given as goal

abbrev pub invariant-loop-number : goal.invariant-loop-number
invariant-loop-number l = IsWalkedTo l.men l.fn.line l.fn.low l.fn.high l.number

abbrev pub decreases-loop-number : goal.decreases-loop-number
decreases-loop-number l = l.end - l.number
