-- A walk up the line to its first piece. The way back to b is clear, as `attacks_along` requires (rise_clear of Rays);
-- that piece alone decides the result (rise_stops); if there is none, the result is false, as nothing attacks from
-- above (rise_ends).
use Rattle.std.proofs.Common.{arith, ◌≡◌, ◌+◌, false, is_none}
use Rattle.std.proofs.lemmas.Grind.{common_steps}
use Rattle.chess_base.specs.Men.{man_at}
use Rattle.chess_base.proofs.Rays.{rise_stops, rise_ends, rise_clear}
use Rattle.chess_base.proofs.attack.is_attacked_along_from_above.Goals as goal

pub attacks_along-requires-clause-clear : goal.attacks_along-requires-clause-clear
attacks_along-requires-clause-clear c =
    let clear = rise_clear c.args.men.now c.args.line c.args.b c.last_above-end.result c.loop-number.number
    c.last_above-end.ensures.on_line c.loop-number.invariant (omega arith) (omega arith) in
    rw (c.new.ensures, c.step_of-step.ensures.value) clear

pub returns-then-is_some : goal.returns-then-is_some
returns-then-is_some c =
    let piece : is_none (man_at c.args.men.now (c.loop-number.number + c.step_of-step.result)) ≡ false =
    grind (arith, common_steps) in
    let decided = rise_stops c.args.men.now c.args.line c.args.colour c.args.b c.last_above-end.result
    c.loop-number.number c.last_above-end.ensures.on_line c.loop-number.invariant (omega arith) (omega arith)
    (rw c.step_of-step.ensures.value at piece) in
    grind (arith, decided)

pub returns : goal.returns
returns c = rise_ends c.args.men.now c.args.line c.args.colour c.args.b c.last_above-end.result c.loop-number.number
    c.loop-number.invariant (omega arith) c.last_above-end.ensures.last
