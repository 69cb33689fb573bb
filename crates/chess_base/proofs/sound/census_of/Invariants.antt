-- The loop's invariant: the census has, for each colour, how many pieces and how many kings are on the squares before
-- the current one.
use Rattle.std.proofs.Common.{take}
use Rattle.chess_base.specs.{declared.man.Colour.TheVariants.White, declared.man.Colour.TheVariants.Black, ties.Tallies.IsTally}
use Rattle.chess_base.proofs.sound.census_of.Given as goal

abbrev pub invariant-loop-man : goal.invariant-loop-man
invariant-loop-man l = IsTally White (take l.man-index l.men) l.census.white × IsTally Black (take l.man-index l.men) l.census.black
