-- What is returned of a game that may go on after fivefold repetition or 75 moves, the draws of 2014.
use Rattle.std.specs.Prelude.{◌≡◌, Bool, length, Option, Some, None, Result, Ok, Err}
use Rattle.chess_game.specs.Game.{State, current}
use Rattle.chess_pgn.specs.declared.past_draws.ReadGame.{ReadGame}
use Rattle.chess_pgn.specs.declared.read.PgnFault.{PgnFault}
use Rattle.chess_pgn.specs.GameRead.{GameRead, ending}

-- the games `g` and `s` are at the same position, and the same verdict ends both, if any. `draws`: whether the draws of
-- 2014 end a game
pub record Stands (draws : Bool) (g s : State) : Type 0 where
  pub position : current g ≡ current s
  pub ends : ending draws g ≡ ending draws s

-- what the code returned of a game is what was read of it (`r`): that no game is left; the game's end, start and number
-- of half-moves; or the fault
abbrev pub IsAnswer : GameRead → Result (Option ReadGame) PgnFault → Type 0
IsAnswer r (Ok None) = r.answer ≡ Ok None
IsAnswer r (Ok (Some game)) = (r.answer ≡ Ok (Some game.end)) × (game.start ≡ r.state.start)
    × (game.plies ≡ length r.state.moves)
IsAnswer r (Err fault) = r.answer ≡ Err fault
