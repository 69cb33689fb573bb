-- The invariant holds at first: nothing is appended, and with no empty squares before it the text of all squares is the
-- rank's (row_is of WrittenRanks).
use Rattle.std.proofs.Common.{◌++◌, ap, arith}
use Rattle.chess_fen.proofs.WrittenRanks.{row_is}
use Rattle.chess_fen.proofs.writing.write_rank.Goals as goal

pub loop-square-init : goal.loop-square-init
loop-square-init c = record {
  text = ap (λ text. c.args.out.now.items ++ text) (row_is c.args.row.now 0);
  len = omega arith;
  few = omega arith;
}
