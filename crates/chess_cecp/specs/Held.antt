-- What a session holds. Tags and limit are fixed when it opens.
use Rattle.std.specs.Prelude.{ℕ}
use Rattle.chess_base.specs.Initial.{initial_setup}
use Rattle.chess_game.specs.Game as game
use Rattle.chess_game.specs.Game.{State, from_start}
use Rattle.pgn_writer.specs.declared.tags.Tags.{Tags}

-- a session: the tags for `showpgn`, the most half-moves that its game may have, and its game's state
pub record SessionSeen : Type 0 where
  pub tags : Tags
  pub limit : ℕ
  pub state : State

-- a session's game, with its limit of half-moves
abbrev pub game_held : SessionSeen → game.Seen
game_held s = record { limit = s.limit; state = s.state }

-- a session with these tags and this limit when it opens, at the initial position of normal chess
abbrev pub opened_session : Tags → ℕ → SessionSeen
opened_session tags limit = record { tags = tags; limit = limit; state = from_start initial_setup }
