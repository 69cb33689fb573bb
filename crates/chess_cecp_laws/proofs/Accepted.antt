-- The moves of a game that was read from a PGN are accepted by a session, one after another (read_games; by induction
-- on the moves): reading a move requires that the game has no verdict and fewer half-moves than the limit, and that the
-- text denotes a legal move (PlayedWords), and the row of `usermove` requires no more.
use Rattle.std.proofs.Common.{◌≡◌, ℕ, true, false, List, [], ◌∷◌, length, None, refl, arith, nat_lt, nat_le}
use Rattle.std.proofs.lemmas.Bool.Decides.{nat_tests}
use Rattle.chess_base.specs.declared.man.Move.{Move}
use Rattle.chess_game.specs.Game.{State, from_start, played, current, verdict_now}
use Rattle.chess_text.specs.declared.reading.Reading.TheVariants as reads
use Rattle.chess_text.specs.Moves.{reading}
use Rattle.pgn_writer.specs.declared.tags.Tags.{Tags}
use Rattle.chess_pgn.specs.GameRead.{pgn_read}
use Rattle.chess_cecp_laws.proofs.PlayedWords.{AreRead, game_words}
use Rattle.chess_cecp.specs.{declared.command.Command.TheVariants.UserMove, Session.becomes_judged, Session.row}
use Rattle.chess_cecp_laws.specs.Accepted.{AreAccepted, ReadGamesAreAccepted}

-- in such a game `usermove` with this text plays the move
move_accepted : (tags : Tags) (limit : ℕ) (s : State) (m : Move) → verdict_now s ≡ None → s.declared ≡ None
    → nat_lt (length s.moves) limit ≡ true → (line word : List ℕ) → reading (current s) word ≡ reads.Move m
    → row tags limit s line word UserMove ≡ becomes_judged (played s m)
move_accepted tags limit s m unended bare room line word is =
    let full : nat_le limit (length s.moves) ≡ false = grind (arith, nat_tests, room) in
    rw (unended, bare, full, is) refl

-- so `usermove` plays each of these moves, one after another; by induction on the moves
accepted : (tags : Tags) (limit : ℕ) (s : State) (words : List (List ℕ)) (ms : List Move) → s.declared ≡ None
    → AreRead limit s words ms → AreAccepted tags limit s ms
accepted tags limit s [] [] bare are = tt
accepted tags limit s [] (m ∷ ms) bare are = absurd are
accepted tags limit s (w ∷ ws) [] bare are = tt
accepted tags limit s (w ∷ ws) (m ∷ ms) bare (unended, room, denotes, more) = (
  (w, denotes),
  move_accepted tags limit s m unended bare room,
  accepted tags limit (played s m) ws ms bare more,
)

pub read_games : ReadGamesAreAccepted
read_games tags limit text at end is =
    let words = game_words limit text at end is in
    accepted tags limit (from_start (pgn_read true limit text at).state.start) words.0
    (pgn_read true limit text at).state.moves
    refl words.1
