-- How large the numbers of a time control and of a side's clock can be.
use Rattle.std.specs.Prelude.{◌≤◌}
use Rattle.cecp_engine.specs.Levels.{LevelSeen, allotted}
use Rattle.chess_base.specs.declared.setup.TheConstants.{MOST_MOVES}
use Rattle.cecp_engine.specs.Clocks.{SideSeen}

-- the numbers of a time control are within what a text can denote: 999 moves, 999 minutes and 59.999 seconds, 999.999
-- seconds
pub record IsLevel (level : LevelSeen) : Type 0 where
  pub moves : level.moves ≤ 999
  pub base : level.base ≤ 59999999
  pub increment : level.increment ≤ 999999

-- a side used no more time than its time control gave it, and made at most 20,000 moves
pub record IsWithin (s : SideSeen) : Type 0 where
  pub moves : s.moves ≤ MOST_MOVES
  pub used : s.used ≤ allotted s.level s.moves
