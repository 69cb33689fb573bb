-- Which engine has which side in a game, with which time control, and by which name; and which tags a game has.
use Rattle.std.specs.Prelude.{◌≡◌, ℕ, ◌%◌, List, [], codes}
use Rattle.chess_base.specs.ByColour.{of_colour}
use Rattle.chess_base.specs.declared.man.Colour.{Colour}
use Rattle.chess_base.specs.declared.man.Colour.TheVariants.{White, Black}
use Rattle.cecp_engine.specs.Levels.{LevelSeen}
use Rattle.chess_game.specs.Results.{cut_tag}
use Rattle.chess_game.specs.declared.results.Outcome.TheVariants.{BlackWins}
use Rattle.chess_game.specs.declared.tags.HowEnded.TheVariants.{TimeForfeit}
use Rattle.chess_match.specs.declared.run.MatchEnd.{MatchEnd}
use Rattle.match_runner.specs.Games.{engine_command, setup_of, tags_of}
use Rattle.chess_match.specs.declared.games_plan.GamesPlan.{GamesPlan}
use Rattle.pgn_writer.specs.Terminations.{termination_of, termination_text}

-- an engine as a plan has it: its command and its time control
abbrev pub Player : Type 0
Player = List ℕ × LevelSeen

-- the engine of `--white`
abbrev pub first_player : GamesPlan → Player
first_player plan = (plan.white.now, plan.white_level)

-- the engine of `--black`
abbrev pub second_player : GamesPlan → Player
second_player plan = (plan.black.now, plan.black_level)

-- the engine of this side in the game of this number
abbrev pub player_of : GamesPlan → ℕ → Colour → Player
player_of plan number side = (engine_command plan number side, of_colour (setup_of plan number).levels side)

-- the engines change sides from game to game, and each keeps its time control
pub record LevelsStayWithEngines (plan : GamesPlan) (number : ℕ) : Type 0 where
  pub odd : number % 2 ≡ 1
      → (player_of plan number White ≡ first_player plan) × (player_of plan number Black ≡ second_player plan)
  pub even : number % 2 ≡ 0
      → (player_of plan number White ≡ second_player plan) × (player_of plan number Black ≡ first_player plan)

-- in each game of each match each engine has its own time control, whichever side it has
abbrev pub EachKeepsItsLevel : Type 0
EachKeepsItsLevel = (plan : GamesPlan) (number : ℕ) → LevelsStayWithEngines plan number

-- ---- tags

-- in a game with this end the tags name an engine by its command, if it gave itself no name; the engine of `--white`
-- has White in odd games, and Black in even ones
pub record EnginesAreNamed (plan : GamesPlan) (number : ℕ) (end : MatchEnd) : Type 0 where
  pub odd_white : end.white_name ≡ [] → number % 2 ≡ 1 → (tags_of plan number end).white ≡ cut_tag plan.white.now
  pub odd_black : end.black_name ≡ [] → number % 2 ≡ 1 → (tags_of plan number end).black ≡ cut_tag plan.black.now
  pub even_white : end.white_name ≡ [] → number % 2 ≡ 0 → (tags_of plan number end).white ≡ cut_tag plan.black.now
  pub even_black : end.black_name ≡ [] → number % 2 ≡ 0 → (tags_of plan number end).black ≡ cut_tag plan.white.now
  -- an engine that named itself `Sjeng`, as an example, is called so, whichever side it has
  pub named_white : end.white_name ≡ codes "Sjeng" → (tags_of plan number end).white ≡ codes "Sjeng"
  pub named_black : end.black_name ≡ codes "Sjeng" → (tags_of plan number end).black ≡ codes "Sjeng"

-- the tags of each game name its engines as `EnginesAreNamed` says (PGN standard of 1994, section 8.1.1); those of the
-- twelfth game, as an example, have this event, site, date, round and end
pub record GamesAreTagged : Type 0 where
  pub players : (plan : GamesPlan) (number : ℕ) (end : MatchEnd) → EnginesAreNamed plan number end
  pub event : (plan : GamesPlan) (end : MatchEnd) → (tags_of plan 12 end).event ≡ codes "CECP match"
  pub site : (plan : GamesPlan) (end : MatchEnd) → (tags_of plan 12 end).site ≡ codes "?"
  pub date : (plan : GamesPlan) (end : MatchEnd) → (tags_of plan 12 end).date ≡ cut_tag plan.date.now
  pub round : (plan : GamesPlan) (end : MatchEnd) → (tags_of plan 12 end).round ≡ codes "12"
  pub ended : (plan : GamesPlan) (end : MatchEnd) → (tags_of plan 12 end).ended ≡ end.ended
  -- so the tag Termination of a game that White has lost on time is `time forfeit`
  pub late : (plan : GamesPlan) (end : MatchEnd) → end.ended ≡ TimeForfeit → end.outcome ≡ BlackWins
      → termination_text (termination_of (tags_of plan 12 end).ended end.outcome) ≡ codes "time forfeit"
