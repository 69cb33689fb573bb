-- A turn keeps the invariant: the entry that is written, at the index `number`, is the Zobrist key with that number,
-- and the entries before it stay.
use Rattle.std.proofs.{Common.arith, Common.◌∙◌, Common.length-set, lemmas.List.Edits.fill_by_more}
use Rattle.chess_moves.specs.PositionHash.{key}
use Rattle.chess_bits.proofs.keys.KeyTable.new.Goals as goal

pub loop-number-preserved : goal.loop-number-preserved
loop-number-preserved c = record {
  long = length-set c.loop-number.keys c.loop-number.number c.key.result ∙ c.loop-number.invariant.long;
  so_far = rw c.key.ensures (fill_by_more key c.loop-number.keys c.loop-number.number 0
      (omega (arith, c.loop-number.invariant.long)) c.loop-number.invariant.so_far);
}
