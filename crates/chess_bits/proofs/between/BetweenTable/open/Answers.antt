-- A turn keeps the invariant: the entry that is written, at the index 64 a + b, has the squares between a and b if they
-- are on one line, and the entries before it stay (paired_more of BetweenSquares).
use Rattle.std.proofs.Common.{arith, ◌∙◌, length-set}
use Rattle.chess_bits.proofs.BetweenSquares.{paired_more}
use Rattle.chess_bits.proofs.between.BetweenTable.open.Goals as goal

pub loop-number-preserved : goal.loop-number-preserved
loop-number-preserved c = record {
  long = length-set c.loop-number.sets.items c.loop-number.number c.between_by_rays.result ∙ c.loop-number.invariant.long;
  so_far = paired_more c.loop-number.sets.items c.loop-number.number c.between_by_rays.result c.new-a.result c.new-b.result
      (omega (arith, c.loop-number.invariant.long)) c.new-a.ensures c.new-b.ensures c.between_by_rays.ensures
      c.loop-number.invariant.so_far;
}
