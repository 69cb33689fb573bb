-- The loop walks from square to square of the line: its invariant holds at first (walk_begins of ClearLines) and after
-- each empty square (walk_goes_on). A piece on the way makes the result false (walk_stops); a walk that comes to `high`
-- makes it true (walk_ends).
use Rattle.std.proofs.Common.{arith, ◌≡◌, sym, true, false, is_none}
use Rattle.std.proofs.lemmas.Grind.{common_steps}
use Rattle.chess_base.specs.Men.{man_at}
use Rattle.chess_base.proofs.ClearLines.{walk_begins, walk_goes_on, walk_ends, walk_stops}
use Rattle.chess_base.proofs.line.is_clear_above.Goals as goal

pub loop-number-init : goal.loop-number-init
loop-number-init c = rw (c.number.ensures.value, c.step_of-step.ensures.value)
    (walk_begins c.args.men.now c.args.line c.args.low c.args.high c.requires.rising (omega arith) c.requires.on_line)

pub loop-number-preserved : goal.loop-number-preserved
loop-number-preserved c =
    let empty : is_none (man_at c.args.men.now c.loop-number.number) ≡ true = grind (arith, common_steps) in
    rw c.step_of-step.ensures.value
    (walk_goes_on c.args.men.now c.args.line c.args.low c.args.high c.loop-number.number c.loop-number.invariant
    (omega arith) (omega arith) c.requires.on_line empty)

pub returns-then-is_some : goal.returns-then-is_some
returns-then-is_some c =
    let piece : is_none (man_at c.args.men.now c.loop-number.number) ≡ false = grind (arith, common_steps) in
    sym (walk_stops c.args.men.now c.args.line c.args.low c.args.high c.loop-number.number c.loop-number.invariant
    (omega arith) (omega arith) c.requires.on_line piece)

pub returns : goal.returns
returns c = sym (walk_ends c.args.men.now c.args.line c.args.low c.args.high c.loop-number.number
    c.loop-number.invariant (omega arith) c.requires.rising c.requires.on_line)
