-- After the move the king of the side on move is on the square returned: if the mover arrives as a king, where it lands
-- (king_lands of KingAfter), otherwise where the king was (king_stays).
use Rattle.std.proofs.Common.{◌≡◌, ◌<◌, true, false, sym, ap, ◌∙◌, subst}
use Rattle.chess_base.specs.{declared.man.Kind.TheVariants.King, declared.steps.Steps.Steps, Men.is_man}
use Rattle.chess_bits.proofs.KingAfter.{king_stays, king_lands}
use Rattle.chess_bits.proofs.bits.Bits.king_after.Goals as goal

pub returns-then-is_man-clause-there : goal.returns-then-is_man-clause-there
returns-then-is_man-clause-there c =
    let p = c.self.inside.setup in
    let king : is_man p.side King c.args.steps.now.mover ≡ true = sym c.is_man.ensures ∙ c.if-is_man.true in
    let low : c.args.steps.now.to < 64 = subst (λ n. n < 64) c.number-end.ensures.value c.number-end.ensures.in_range in
    rw (← c.self.view_is)
    (λ m pattern steps.
    king_lands p m c.args.steps.now.to (ap (λ (t : Steps). t.to) steps) low
    (sym (ap (λ (t : Steps). is_man p.side King t.mover) steps) ∙ king))

pub returns-else-is_man-clause-there : goal.returns-else-is_man-clause-there
returns-else-is_man-clause-there c =
    let p = c.self.inside.setup in
    let still : is_man p.side King c.args.steps.now.mover ≡ false = sym c.is_man.ensures ∙ c.if-is_man.false in
    let alone = rw (← c.self.view_is) at c.king.ensures.alone in
    rw (← c.self.view_is)
    (λ m pattern steps.
    king_stays p m c.king.result c.self.invariant.0 pattern alone
    (sym (ap (λ (t : Steps). is_man p.side King t.mover) steps) ∙ still))
