-- If the move passes the test `steps_plainly`: it is pseudo-legal and neither the king's nor en passant, so it has the
-- property `StepsPlainly`, for which the answer of `is_safe_plain` is whether it is legal.
use Rattle.std.proofs.Common.{not, ◌&&◌, sym, ◌∙◌}
use Rattle.std.proofs.lemmas.Bool.{and_parts, not-true}
use Rattle.chess_base.specs.{Men.is_man, Men.man_at, Squares.is_at, declared.man.Kind.TheVariants.King, declared.man.Kind.TheVariants.Pawn}
use Rattle.chess_bits.proofs.bits.Bits.is_safe_after.Goals as goal

pub returns-then-steps_plainly : goal.returns-then-steps_plainly
returns-then-steps_plainly c = λ pattern.
    let p = c.args.self.now in
    let m = c.args.m.now in
    let both = and_parts (not (is_man p.side King (man_at p.men m.from)))
    (not (is_man p.side Pawn (man_at p.men m.from) && is_at p.target m.to))
    (sym c.steps_plainly.ensures ∙ c.if-steps_plainly.true) in
    c.is_safe_plain.ensures m.promotion
    (record { pattern = pattern; no_king = not-true _ both.0; no_passing = not-true _ both.1 })
