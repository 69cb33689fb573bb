-- The measure of the recursion: the depth. The loop's invariant: the board is at the position that it had first, since
-- each move is taken back.
use Rattle.std.proofs.Common.{◌≡◌}
use Rattle.workloads.proofs.lines.+count_lines.Given as goal

abbrev pub decreases-count_lines : goal.decreases-count_lines
decreases-count_lines g l = l.depth

abbrev pub invariant-loop-m : goal.invariant-loop-m
invariant-loop-m g l = g.B.Board.position l.board ≡ g.B.Board.position l.fn.board
