-- Lines that a session answers by its game (CECP, version 2; `claim` is this project's own).
use Rattle.std.specs.Prelude.{◌≡◌, ◌<◌, ◌≤◌, Bool, true, false, [], ◌∷◌, ◌++◌, codes, length, replicate, None, Some}
use Prim.Native.String.{String as Text}
use Rattle.std.specs.List.{list_any}
use Rattle.std.specs.Str.{bytes_eq}
use Rattle.byte_devices.specs.Bytes.{byte}
use Rattle.chess_base.specs.Faults.{fen_fault_name}
use Rattle.chess_base.specs.declared.fen_fault.FenFault.{FenFault}
use Rattle.chess_base.specs.declared.fen_fault.FenFault.TheVariants as faults
use Rattle.chess_base.specs.declared.man.Move.{Move}
use Rattle.chess_base.specs.declared.man.Variant.TheVariants.{Normal, Fischerandom}
use Rattle.chess_base.specs.Initial.{initial_setup}
use Rattle.chess_game.specs.Ends.{claims, draw_claim}
use Rattle.chess_game.specs.Game.{State, current, from_start, is_over, played, verdict_now}
use Rattle.chess_game.specs.declared.results.Declared.{Declared}
use Rattle.chess_game.specs.declared.results.Outcome.{Outcome}
use Rattle.chess_game.specs.declared.results.Outcome.TheVariants.{WhiteWins, BlackWins, Draw, Unfinished}
use Rattle.chess_game.specs.declared.tags.HowEnded.TheVariants as how
use Rattle.chess_game.specs.declared.verdicts.DrawClaim.TheVariants.{Threefold, FiftyMoves}
use Rattle.chess_game.specs.declared.verdicts.Verdict.TheVariants.{WhiteMates, BlackMates, Stalemate}
use Rattle.chess_text.specs.Moves.{reading, shape}
use Rattle.chess_text.specs.declared.reading.Reading.TheVariants as reads
use Rattle.text_lines.specs.Lines.{LineSeen}
use Rattle.text_lines.specs.Words.{word_of}
use Rattle.pgn_writer.specs.declared.tags.Tags.{Tags}
use Rattle.chess_cecp.specs.Declaring.{claims_text, read_result}
use Rattle.chess_cecp.specs.Held.{SessionSeen}
use Rattle.chess_cecp.specs.Session.{session_response}
use Rattle.chess_cecp_laws.specs.SessionLines.{Becomes, IsAnswered, IsIgnored, known_words, response_to}

-- the session once this result is declared in its game
abbrev pub with_result : SessionSeen → Declared → SessionSeen
with_result session d = let s = session.state in record session { state = record s { declared = Some d } }

-- this line gets this answer, and this result is declared in the game
pub record Declares (session : SessionSeen) (line answer : Text) (outcome : Outcome) (comment : Text) : Type 0 where
  pub text : (response_to session line).text ≡ codes answer
  pub state : (response_to session line).state
      ≡ with_result session (record { outcome = outcome; comment = codes comment })

-- this line gets this answer, and this move is played
pub record Plays (session : SessionSeen) (line answer : Text) (m : Move) : Type 0 where
  pub text : (response_to session line).text ≡ codes answer
  pub state : (response_to session line).state ≡ record session { state = played session.state m }

-- the game 1 e4
abbrev pub after_e4 : State
after_e4 = record {
  start = initial_setup;
  moves = record { from = 12; to = 28; promotion = None } ∷ [];
  declared = None;
}

-- the result after Black resigned
abbrev pub black_resigned : Declared
black_resigned = record { outcome = WhiteWins; comment = codes "Black resigns" }

-- the tags of a game of which nothing is known
abbrev pub unknown_tags : Tags
unknown_tags = record {
  event = codes "?";
  site = codes "?";
  date = codes "????.??.??";
  round = codes "?";
  white = codes "?";
  black = codes "?";
  ended = how.Normal;
}

-- the answers of this session to some lines, by what its game is
pub record ByTheGame (session : SessionSeen) : Type 0 where
  -- a game that is over
  pub move_after_end : is_over session.state ≡ true
      → IsAnswered session "usermove e4" "Illegal move (game over): e4\n"
  pub claim_after_end : is_over session.state ≡ true
      → IsAnswered session "claim" "Error (command not legal now): claim\n"
  -- a game with as many half-moves as the limit, or more
  pub too_long : is_over session.state ≡ false → session.limit ≤ length session.state.moves
      → IsAnswered session "usermove e4" "Error (game too long): e4\n"
  -- a game that is on, in which `e4` denotes a move that ends nothing, one that mates, several moves, or none
  pub quiet_move : (m : Move) → is_over session.state ≡ false → length session.state.moves < session.limit
      → reading (current session.state) (codes "e4") ≡ reads.Move m
      → verdict_now (played session.state m) ≡ None → Plays session "usermove e4" "" m
  pub mating_move : (m : Move) → is_over session.state ≡ false → length session.state.moves < session.limit
      → reading (current session.state) (codes "e4") ≡ reads.Move m
      → verdict_now (played session.state m) ≡ Some WhiteMates → Plays session "usermove e4" "1-0 {White mates}\n" m
  pub several_moves : is_over session.state ≡ false → length session.state.moves < session.limit
      → reading (current session.state) (codes "e4") ≡ reads.Ambiguous
      → IsAnswered session "usermove e4" "Error (ambiguous move): e4\n"
  pub no_move : is_over session.state ≡ false → length session.state.moves < session.limit
      → reading (current session.state) (codes "e4") ≡ reads.NoSuch
      → IsAnswered session "usermove e4" "Illegal move: e4\n"
  -- a game of one half-move, and one of two, with a declared result or without
  pub undo : (m : Move) → session.state.moves ≡ m ∷ [] → Becomes session "undo" (from_start session.state.start)
  pub remove_one : (m : Move) → session.state.moves ≡ m ∷ []
      → IsAnswered session "remove" "Error (command not legal now): remove\n"
  pub remove : (m n : Move) → session.state.moves ≡ m ∷ n ∷ []
      → Becomes session "remove" (from_start session.state.start)
  -- a game of three half-moves, of which the first stays
  pub remove_two : (m n o : Move) → session.state.moves ≡ m ∷ n ∷ o ∷ [] → Becomes session "remove"
      (record { start = session.state.start; moves = m ∷ []; declared = None })
  -- a game of Chess960, and one of normal chess
  pub normal_again : session.state.start.variant ≡ Fischerandom
      → Becomes session "variant normal" (from_start initial_setup)
  pub still_normal : session.state.start.variant ≡ Normal → IsIgnored session "variant normal"
  -- a game that has just begun
  pub shown_fen : session.state ≡ from_start initial_setup
      → IsAnswered session "showfen" "# fen rnbqkbnr/pppppppp/8/8/8/8/PPPPPPPP/RNBQKBNR w KQkq - 0 1\n"
  pub shown_moves : session.state ≡ from_start initial_setup → IsAnswered session "showmoves"
      "# moves 20 b1a3 b1c3 g1f3 g1h3 a2a3 a2a4 b2b3 b2b4 c2c3 c2c4 d2d3 d2d4 e2e3 e2e4 f2f3 f2f4 g2g3 g2g4 h2h3 h2h4\n"
  pub shown_state : session.state ≡ from_start initial_setup → IsAnswered session "showstate"
      "# state ply 0 rep 1 clock 0 claims none verdict none declared none\n"
  -- a game of one half-move that Black has resigned
  pub shown_result : session.state ≡ record after_e4 { declared = Some black_resigned }
      → IsAnswered session "showstate"
      "# state ply 1 rep 1 clock 0 claims none verdict none declared 1-0 {Black resigns}\n"
  -- each line of a PGN has `# ` before it
  pub shown_pgn : session.tags ≡ unknown_tags → session.state ≡ after_e4 → IsAnswered session "showpgn"
      "# [Event \"?\"]\n# [Site \"?\"]\n# [Date \"????.??.??\"]\n# [Round \"?\"]\n# [White \"?\"]\n# [Black \"?\"]\n# [Result \"*\"]\n# [Termination \"unterminated\"]\n# \n# 1. e4 *\n# \n"
  -- games in which no draw can be claimed, and in which one can
  pub no_claim : is_over session.state ≡ false
      → draw_claim (claims session.state.start session.state.moves) ≡ None
      → IsAnswered session "claim" "Error (no claim): claim\n"
  pub threefold : is_over session.state ≡ false
      → draw_claim (claims session.state.start session.state.moves) ≡ Some Threefold
      → Declares session "claim" "1/2-1/2 {Threefold repetition}\n" Draw "Threefold repetition"
  pub fifty_moves : is_over session.state ≡ false
      → draw_claim (claims session.state.start session.state.moves) ≡ Some FiftyMoves
      → Declares session "claim" "1/2-1/2 {50-move rule}\n" Draw "50-move rule"
  -- a game without a verdict, with a verdict of the same outcome, and with those of others
  pub new_result : verdict_now session.state ≡ None
      → Declares session "result 1-0 {Black resigns}" "" WhiteWins "Black resigns"
  pub same_result : verdict_now session.state ≡ Some WhiteMates
      → Declares session "result 1-0 {Black resigns}" "" WhiteWins "Black resigns"
  pub other_result : verdict_now session.state ≡ Some BlackMates
      → IsAnswered session "result 1-0 {Black resigns}"
      "Error (the board says otherwise): result 1-0 {Black resigns}\n"
  pub drawn_by_the_board : verdict_now session.state ≡ Some Stalemate
      → IsAnswered session "result 1-0 {Black resigns}"
      "Error (the board says otherwise): result 1-0 {Black resigns}\n"
  -- braces in a comment become `?`
  pub braces : verdict_now session.state ≡ None
      → Declares session "result 1-0 {Black {resigns}}" "" WhiteWins "Black ?resigns?"
  -- FENs that are refused
  pub no_fen : session.state.start.variant ≡ Normal
      → IsAnswered session "setboard e4" "tellusererror Illegal position (fields)\n"
  pub no_king : session.state.start.variant ≡ Normal
      → IsAnswered session "setboard 8/8/8/8/8/8/8/4K3 w - - 0 1" "tellusererror Illegal position (kings)\n"
  -- a FEN of a stalemate, which ends the game (5.2.1)
  pub ended : session.state.start.variant ≡ Normal
      → (response_to session "setboard 7k/5Q2/6K1/8/8/8/8/8 b - - 0 1").text ≡ codes "1/2-1/2 {Stalemate}\n"

-- every session answers as `ByTheGame` says
abbrev pub GameLinesAreAnswered : Type 0
GameLinesAreAnswered = (session : SessionSeen) → ByTheGame session

-- ---- moves without `usermove`

-- in every session: a line that has a move's shape, such as `e4`, and whose first word is none of `known_words`, gets
-- the response of `usermove` with this move
abbrev pub BareMovesAreMoves : Type 0
BareMovesAreMoves = (session : SessionSeen) (bare named : LineSeen) → bare.too_long ≡ false → named.too_long ≡ false
    → list_any (bytes_eq (word_of bare.text)) known_words ≡ false → shape bare.text ≡ true
    → named.text ≡ codes "usermove " ++ bare.text → session_response session bare ≡ session_response session named

-- ---- draws that can be claimed

-- if these draws can be claimed, `showstate` writes this text after `claims`
abbrev pub AreShown : (threefold fifty_moves : Bool) → Text → Type 0
AreShown threefold fifty_moves text =
    claims_text (record { threefold = threefold; fifty_moves = fifty_moves }) ≡ codes text

-- how claims are shown, in all cases
pub record ClaimsAreShown : Type 0 where
  pub neither : AreShown false false "none"
  pub threefold : AreShown true false "threefold"
  pub fifty_moves : AreShown false true "50"
  pub both : AreShown true true "threefold+50"

-- ---- results that are declared

-- the argument of `result`, as this text, declares this outcome, with this comment
abbrev pub IsResult : Text → Outcome → Text → Type 0
IsResult text outcome comment =
    read_result (codes text) ≡ Some (record { outcome = outcome; comment = codes comment })

-- how results are read: each outcome, with a comment, with an empty one, and without
pub record ResultsAreRead : Type 0 where
  pub white_wins : IsResult "1-0 {Black resigns}" WhiteWins "Black resigns"
  pub black_wins : IsResult "0-1 {White resigns}" BlackWins "White resigns"
  pub drawn : IsResult "1/2-1/2 {}" Draw ""
  pub unfinished : IsResult "*" Unfinished ""
  -- of 61 letters `z` the first 60 are kept
  pub long : read_result (codes "* {" ++ (replicate 61 (byte "z") ++ codes "}"))
      ≡ Some (record { outcome = Unfinished; comment = replicate 60 (byte "z") })

-- ---- faults of a FEN

-- the name of this fault in `tellusererror Illegal position (NAME)`
abbrev pub IsNamed : FenFault → Text → Type 0
IsNamed fault name = fen_fault_name fault ≡ codes name

-- the names of a FEN's faults
pub record FaultsAreNamed : Type 0 where
  pub fields : IsNamed faults.Fields "fields"
  pub placement : IsNamed faults.Placement "placement"
  pub side : IsNamed faults.Side "side"
  pub castling : IsNamed faults.Castling "castling"
  pub en_passant : IsNamed faults.EnPassant "en passant"
  pub counters : IsNamed faults.Counters "counters"
  pub kings : IsNamed faults.Kings "kings"
  pub pawns : IsNamed faults.Pawns "pawns"
  pub men : IsNamed faults.Men "men"
  pub check : IsNamed faults.Check "check"
