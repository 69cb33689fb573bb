-- The loop's invariant: on the line of b all squares below b down to `number` are empty (HasFallen of Rays). The
-- measure is how far `number` is above `end`, the line's last square.
use Rattle.std.proofs.Common.{◌-◌}
use Rattle.chess_base.proofs.Rays.{HasFallen}
use Rattle.chess_base.proofs.attack.is_attacked_along_from_below.Given as goal

abbrev pub invariant-loop-number : goal.invariant-loop-number
invariant-loop-number l = HasFallen l.men l.fn.line l.b l.end l.number

abbrev pub decreases-loop-number : goal.decreases-loop-number
decreases-loop-number l = l.number - l.end
