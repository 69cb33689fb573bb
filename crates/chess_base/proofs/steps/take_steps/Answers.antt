-- The pieces after the steps are those after the four writes, in the same order (men_stepped-written of Writes).
use Rattle.std.proofs.Common.{sym, arith}
use Rattle.chess_base.proofs.shared.Writes.{men_stepped-written}
use Rattle.chess_base.proofs.steps.take_steps.Goals as goal

pub returns : goal.returns
returns c =
    rw (c.put-4.ensures, c.put-3.ensures, c.put-2.ensures, c.put.ensures)
    (sym (men_stepped-written c.args.men.now c.args.steps.now (omega arith)))
