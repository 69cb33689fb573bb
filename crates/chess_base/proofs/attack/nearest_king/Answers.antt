-- The square that is returned has passed the test for the king (clause found). Where none is returned, each square,
-- counted from the colour's own side, has failed it, and these are all squares (clause none; none_from_side of
-- KingChecks).
use Rattle.std.proofs.{Common.arith, Common.◌≡◌, Common.true, lemmas.Grind.common_steps}
use Rattle.chess_base.specs.{declared.man.Kind.TheVariants.King, Men.man_at, Men.is_man}
use Rattle.chess_base.proofs.KingChecks.{none_from_side}
use Rattle.chess_base.proofs.attack.nearest_king.Goals as goal

pub returns-then-is_man-clause-found : goal.returns-then-is_man-clause-found
returns-then-is_man-clause-found c s e =
    let there : is_man c.args.colour King (man_at c.args.men.now c.square_from_side-square.result) ≡ true =
    grind (arith, common_steps) in
    let same : c.square_from_side-square.result ≡ s = cc in
    rw same at there

pub returns-clause-none : goal.returns-clause-none
returns-clause-none c e =
    none_from_side c.args.men.now c.args.colour (λ k low. c.loop-number.invariant k (omega arith))
