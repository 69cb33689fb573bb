-- The loop's invariant: the first fault from `offset` on, in the position reached, is that of the line (LineReads of
-- LinesRead). The loop ends since each token has a byte; the calls of `read_line` by itself end since in each one
-- variation fewer may be open.
use Rattle.std.proofs.Common.{length, ◌-◌}
use Rattle.chess_pgn.proofs.LinesRead.{LineReads}
use Rattle.chess_pgn.proofs.variations.+read_line.Given as goal

-- the first fault from `offset` on, in the board's position, is the first of the whole line (LinesRead.LineReads)
abbrev pub invariant-loop-token : goal.invariant-loop-token
invariant-loop-token g l = LineReads l.tags l.depth l.text l.start l.at l.before (g.B.Board.position l.board) l.offset

abbrev pub decreases-loop-token : goal.decreases-loop-token
decreases-loop-token g l = length l.text - l.offset

-- how many more variations may be open inside this line
abbrev pub decreases-read_line : goal.decreases-read_line
decreases-read_line g l = l.depth
