-- The result has the start of each legal move of the kind to the square (`HasOrigins`). A king is among all kings
-- (all_men of chess_moves); a pawn advances or captures (pawn_origins of OriginsOf); an officer goes where it attacks,
-- and its kind attacks back from there (officer_origins).
use Rattle.std.proofs.Common.{sym, ap, ◌∙◌}
use Rattle.chess_moves.specs.Sets.{contains}
use Rattle.chess_moves.proofs.shared.Origins.{all_men}
use Rattle.chess_bits.proofs.OriginsOf.{pawn_origins, officer_origins}
use Rattle.chess_bits.proofs.bits.BitsBoard.origins.Goals as goal

pub returns-then-is_king : goal.returns-then-is_king
returns-then-is_king c =
    let kinds = c.of-men.ensures c.self.inside.setup.men c.self.invariant.1 in
    rw (← c.self.view_is)
    (all_men c.self.inside.setup c.args.kind c.args.to c.of-own.result
    (λ k low. ap (λ w. contains w k) c.of-own.ensures ∙ kinds.of_kind c.args.kind k low))

pub returns-then-is_pawn : goal.returns-then-is_pawn
returns-then-is_pawn c =
    rw (← c.self.view_is)
    (pawn_origins c.self.inside.setup c.args.kind c.args.to c.pawns_to.result
    (sym c.is_pawn.ensures ∙ c.if-is_pawn.true) (rw (← c.self.view_is) at c.pawns_to.ensures))

pub returns : goal.returns
returns c =
    let p = c.self.inside.setup in
    let kinds = c.of-men.ensures p.men c.self.invariant.1 in
    rw (← c.self.view_is)
    (officer_origins p c.args.kind c.args.to c.reached_among.result c.of-own.result
    (sym c.is_pawn.ensures ∙ c.if-is_pawn.false) (sym c.is_king.ensures ∙ c.if-is_king.false)
    (c.reached_among.ensures p.men p.side (c.occupied.ensures p.men c.self.invariant.1))
    (λ k low. ap (λ w. contains w k) c.of-own.ensures ∙ kinds.of_kind c.args.kind k low))
