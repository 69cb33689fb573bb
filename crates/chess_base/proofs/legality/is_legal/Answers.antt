-- `is_king_attacked` requires exactly one king of the colour: after a pseudo-legal move of a sound position, which
-- makes a `Change` (change_of of CastlingChange), each colour still has one (one_king_after of CountsAfter).
use Rattle.std.proofs.Common.{sym, ◌∙◌}
use Rattle.chess_base.proofs.{CastlingChange.change_of, CountsAfter.one_king_after, shared.Kings.one_king_of}
use Rattle.chess_base.proofs.legality.is_legal.Goals as goal

pub is_king_attacked-requires : goal.is_king_attacked-requires
is_king_attacked-requires c =
    let p = c.args.setup.now in
    let m = c.args.m.now in
    rw c.men_after.ensures
    (one_king_after p m p.side c.requires.board
    (change_of p m c.requires (sym c.is_pseudo_legal.ensures ∙ c.if-is_pseudo_legal.true))
    (one_king_of p c.requires p.side))
