-- The clause `men`: the pieces after the four writes are `men_stepped`, the definition of what the steps do, which
-- writes the same squares in the same order (men_stepped-written of Writes).
use Rattle.std.proofs.Common.{sym, arith}
use Rattle.chess_base.proofs.shared.Writes.{men_stepped-written}
use Rattle.chess_bits.proofs.placing.take_steps.Goals as goal

pub returns-clause-men : goal.returns-clause-men
returns-clause-men c =
    rw (c.place-4.ensures.men, c.place-3.ensures.men, c.place-2.ensures.men, c.place.ensures.men)
    (sym (men_stepped-written c.args.men.now c.args.steps.now (omega arith)))
