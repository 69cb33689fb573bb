-- `setboard` (CECP, version 2) of a position that `showfen` (this project's own) wrote.
use Rattle.std.specs.Prelude.{◌≡◌, ℕ, false, List, [], ◌∷◌, ◌++◌, codes}
use Rattle.byte_devices.specs.Bytes.{new_line}
use Rattle.chess_game.specs.Game.{IsPlayable, current, from_start}
use Rattle.text_lines.specs.Lines.{LineSeen}
use Rattle.chess_cecp.specs.Held.{SessionSeen, game_held}
use Rattle.chess_cecp.specs.Session.{session_response}

-- a line with this text, which is not too long
pub record IsLineOf (line : LineSeen) (text : List ℕ) : Type 0 where
  pub fits : line.too_long ≡ false
  pub is : line.text ≡ text

-- `setboard` of what `showfen` wrote, in the same session or in another one of the same variant, begins a game at the
-- position that was shown. `IsPlayable` holds of every session's game
abbrev pub SetboardTakesShownFens : Type 0
SetboardTakesShownFens = (shown set : SessionSeen) (asking setting : LineSeen) (fen : List ℕ)
    → IsPlayable (game_held shown) → set.state.start.variant ≡ shown.state.start.variant
    → IsLineOf asking (codes "showfen") → (session_response shown asking).text ≡ codes "# fen " ++ fen ++ new_line ∷ []
    → IsLineOf setting (codes "setboard " ++ fen)
    → (session_response set setting).state.state ≡ from_start (current shown.state)
