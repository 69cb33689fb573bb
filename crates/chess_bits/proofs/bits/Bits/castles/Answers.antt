-- The result is whether the way is empty and safe. If `is_way_empty` is true, `is_safe_way` decides: the definition
-- asks of each square of the king's way that it isn't attacked, and `walk` has just these (way_is_safe of
-- CastlingBySets).
use Rattle.std.proofs.Common.{sym, ◌∙◌}
use Rattle.chess_moves.specs.Sets.{contains}
use Rattle.chess_bits.proofs.CastlingBySets.{way_is_safe}
use Rattle.chess_bits.proofs.bits.Bits.castles.Goals as goal

pub returns : goal.returns
returns c =
    rw (sym c.is_way_empty.ensures ∙ c.if-not-is_way_empty.false)
    (c.is_safe_way.ensures
    ∙ way_is_safe c.args.self.now.men c.args.self.now.side c.args.castle.now (λ x. contains c.way-walk.result x)
    c.way-walk.ensures)
