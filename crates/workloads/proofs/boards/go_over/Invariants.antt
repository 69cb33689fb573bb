-- The loop's invariant: the board is at the position that it had first, since each move is taken back; so each move of
-- the list is legal there.
use Rattle.std.proofs.Common.{◌≡◌}
use Rattle.workloads.proofs.boards.go_over.Given as goal

abbrev pub invariant-loop-m : goal.invariant-loop-m
invariant-loop-m g l = g.B.Board.position l.board ≡ g.B.Board.position l.fn.board
