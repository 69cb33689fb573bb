-- A session accepts the moves of each game that is read from a PGN.
use Rattle.std.specs.Prelude.{◌≡◌, ℕ, true, List, [], ◌∷◌, Some, Ok}
use Rattle.chess_base.specs.declared.man.Move.{Move}
use Rattle.chess_game.specs.Game.{State, from_start, played, current}
use Rattle.chess_text.specs.declared.reading.Reading.TheVariants as reads
use Rattle.chess_text.specs.Moves.{reading}
use Rattle.chess_pgn.specs.declared.read.PgnEnd.{PgnEnd}
use Rattle.pgn_writer.specs.declared.tags.Tags.{Tags}
use Rattle.chess_pgn.specs.GameRead.{pgn_read}
use Rattle.chess_cecp.specs.declared.command.Command.TheVariants.{UserMove}
use Rattle.chess_cecp.specs.Session.{becomes_judged, row}

-- from the game `s` on, `usermove` plays these moves one after another: each is denoted by some text, and is played by
-- whichever text denotes it. `limit` is the most half-moves of a game
abbrev pub AreAccepted : Tags → ℕ → State → List Move → Type 0
AreAccepted tags limit s [] = Unit {0}
AreAccepted tags limit s (m ∷ ms) =
    ((word : List ℕ) × (reading (current s) word ≡ reads.Move m))
    × ((line word : List ℕ) → reading (current s) word ≡ reads.Move m
    → row tags limit s line word UserMove ≡ becomes_judged (played s m))
    × AreAccepted tags limit (played s m) ms

-- if a game is read without a fault, from the offset `at` of a PGN on, its moves are accepted; `tags` are the session's
abbrev pub ReadGamesAreAccepted : Type 0
ReadGamesAreAccepted =
    (tags : Tags) → (limit : ℕ) → (text : List ℕ) → (at : ℕ) → (end : PgnEnd)
    → (pgn_read true limit text at).answer ≡ Ok (Some end)
    → AreAccepted tags limit (from_start (pgn_read true limit text at).state.start)
    (pgn_read true limit text at).state.moves
