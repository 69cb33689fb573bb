-- Each kind's own search gives the legal starts of that kind. The kind that is neither an officer's nor the king's is
-- the pawn's (pawn_left of ByKind).
use Rattle.std.proofs.Common.{sym, subst, ◌∙◌}
use Rattle.chess_base.specs.declared.man.Kind.TheVariants.{King}
use Rattle.chess_base.proofs.shared.Men.{same_kind-true}
use Rattle.chess_moves.specs.Sets.{HasLegalStarts}
use Rattle.chess_bits.proofs.ByKind.{pawn_left}
use Rattle.chess_bits.proofs.bits.Bits.starts_of.Goals as goal

pub returns-then-is_king : goal.returns-then-is_king
returns-then-is_king c =
    subst (λ kind. HasLegalStarts c.args.self.now kind c.args.to c.king_starts.result)
    (same_kind-true King c.args.kind (sym c.is_king.ensures ∙ c.if-is_king.true)) c.king_starts.ensures

pub returns : goal.returns
returns c =
    subst (λ kind. HasLegalStarts c.args.self.now kind c.args.to c.legal_pawn_starts.result)
    (sym (pawn_left c.args.kind (sym c.is_officer.ensures ∙ c.if-is_officer.false)
    (sym c.is_king.ensures ∙ c.if-is_king.false)))
    c.legal_pawn_starts.ensures
