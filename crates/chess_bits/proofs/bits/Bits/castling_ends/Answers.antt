-- The result has just the ends of the king's legal castlings: a castling goes to one side or the other, so these are
-- the ends of both sides, joined (to_either_side of TargetsOf).
use Rattle.std.proofs.Common.{◌∙◌}
use Rattle.chess_bits.proofs.TargetsOf.{to_either_side}
use Rattle.chess_bits.proofs.bits.Bits.castling_ends.Goals as goal

pub returns : goal.returns
returns c = λ k low.
    c.union.ensures k ∙ rw (c.legal_castling_end-far.ensures k low, c.legal_castling_end.ensures k low)
    (to_either_side c.args.self.now c.args.king k)
