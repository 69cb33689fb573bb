-- The loop's invariant: on the line of b all squares above b up to `number` are empty (HasRisen of Rays). The measure
-- is how far `number` is below `end`, the line's last square.
use Rattle.std.proofs.Common.{◌-◌}
use Rattle.chess_base.proofs.Rays.{HasRisen}
use Rattle.chess_base.proofs.attack.is_attacked_along_from_above.Given as goal

abbrev pub invariant-loop-number : goal.invariant-loop-number
invariant-loop-number l = HasRisen l.men l.fn.line l.b l.end l.number

abbrev pub decreases-loop-number : goal.decreases-loop-number
decreases-loop-number l = l.end - l.number
