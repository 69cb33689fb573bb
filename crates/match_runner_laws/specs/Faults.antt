-- Laws of the faults in the games of a match.
use Rattle.std.specs.Prelude.{◌≡◌, List}
use Rattle.std.specs.List.{AllByRecursion}
use Rattle.chess_base.specs.declared.man.Colour.{Colour}
use Rattle.chess_match.specs.declared.games_plan.GamesPlan.{GamesPlan}
use Rattle.match_runner.specs.Games.{GameRecord, FaultlessGames}

-- in this game, its end lines included, no write or flush to an engine failed: the failure count of each engine's
-- input, which is the arbiter's `output`, is as before
abbrev pub KeepsFailureCounts : GameRecord → Type 0
KeepsFailureCounts played = (S : Colour)
    → (played.after.engines S).output.failure_count ≡ (played.before.engines S).output.failure_count

-- whenever games of a match are without a fault of an engine, as all but its last are (`WritesGames`), no write to an
-- engine failed in them (`KeepsFailureCounts`)
abbrev pub OnlyLastGamesHaveFailedWrites : Type 0
OnlyLastGamesHaveFailedWrites = (plan : GamesPlan) (games : List GameRecord) → FaultlessGames plan games
    → AllByRecursion KeepsFailureCounts games
