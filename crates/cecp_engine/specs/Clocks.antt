-- The clocks of a game.
use Rattle.std.specs.Prelude.{ℕ, ◌+◌, ◌-◌}
use Rattle.chess_base.specs.declared.man.Colour.{Colour}
use Rattle.chess_base.specs.declared.man.Colour.TheVariants.{White, Black}
use Rattle.cecp_engine.specs.Levels.{LevelSeen, allotted}

-- a side's clock: its time control, how many moves the side made, and the milliseconds they took
pub record SideSeen : Type 0 where
  pub level : LevelSeen
  pub moves : ℕ
  pub used : ℕ

-- the clocks of a game
pub record ClocksSeen : Type 0 where
  pub white : SideSeen
  pub black : SideSeen

-- a side's clock with this time control, before its first move
abbrev pub new_side : LevelSeen → SideSeen
new_side level = record { level = level; moves = 0; used = 0 }

-- the clocks before the first move; `level` gives each side's time control
abbrev pub new_clocks : (Colour → LevelSeen) → ClocksSeen
new_clocks level = record { white = new_side (level White); black = new_side (level Black) }

-- this side's clock
abbrev pub side_clock : ClocksSeen → Colour → SideSeen
side_clock clocks White = clocks.white
side_clock clocks Black = clocks.black

-- the milliseconds that the side `c` has left; at least 0
abbrev pub remaining : ClocksSeen → Colour → ℕ
remaining clocks c =
    allotted (side_clock clocks c).level (side_clock clocks c).moves - (side_clock clocks c).used

-- a side's clock after one more move, which took `used` milliseconds
abbrev pub side_charged : SideSeen → ℕ → SideSeen
side_charged s used = record s { moves = s.moves + 1; used = s.used + used }

-- the clocks after one more move of this side, which took `used` milliseconds
abbrev pub charged : ClocksSeen → Colour → ℕ → ClocksSeen
charged clocks White used = record clocks { white = side_charged clocks.white used }
charged clocks Black used = record clocks { black = side_charged clocks.black used }
