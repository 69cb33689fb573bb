-- `met` are the occupied squares that king or rook crosses or ends on, but for those where the two start; the way is
-- empty exactly if there is none (way_is_empty of CastlingBySets).
use Rattle.std.proofs.Common.{refl, ◌∙◌}
use Rattle.chess_moves.specs.Sets.{contains}
use Rattle.chess_bits.proofs.CastlingBySets.{way_is_empty}
use Rattle.chess_bits.proofs.bits.Bits.is_way_empty.Goals as goal

pub returns : goal.returns
returns c =
    let men = c.self.inside.setup.men in
    rw (← c.self.view_is)
    (c.is_empty.ensures.none
    ∙ way_is_empty men c.args.castle.now (λ x. contains c.intersection-met.result x)
    (λ x low. c.intersection-met.ensures x
    ∙ rw (
      c.without-crossed.ensures x low,
      c.without.ensures x low,
      c.union.ensures x,
      c.way-walk.ensures x low,
      c.way-ride.ensures x low,
      c.single.ensures.value x,
      c.single-2.ensures.value x,
      (c.occupied.ensures men c.self.invariant.1).of_men x low,
    ) refl))
