-- What every session answers to some lines (CECP, version 2), and how an input is cut into lines.
use Rattle.std.specs.Prelude.{◌≡◌, Bool, true, false, List, [], ◌∷◌, ◌++◌, ℕ, codes, length, map, replicate}
use Prim.Native.String.{String as Text}
use Rattle.std.specs.List.{AllByRecursion, list_any}
use Rattle.std.specs.Str.{bytes_eq}
use Rattle.byte_devices.specs.Bytes.{byte, carriage_return, new_line, tab}
use Rattle.chess_base.specs.declared.man.Variant.TheVariants.{Fischerandom}
use Rattle.chess_base.specs.Initial.{initial_setup, initial_setup_of}
use Rattle.chess_game.specs.Game.{State, from_start}
use Rattle.chess_text.specs.Moves.{shape}
use Rattle.text_lines.specs.Lines.{LineSeen, stream_lines}
use Rattle.text_lines.specs.Words.{word_of}
use Rattle.chess_cecp.specs.Held.{SessionSeen}
use Rattle.chess_cecp.specs.Serving.{Response}
use Rattle.chess_cecp.specs.Session.{session_response}

-- ---- words that no command has

-- the first words that a session knows: the empty one, of an empty line; the commands that it ignores, since they
-- concern an engine that plays; and its other commands
abbrev pub known_words : List (List ℕ)
known_words =
    [] ∷ codes "xboard" ∷ codes "accepted" ∷ codes "rejected" ∷ codes "force" ∷ codes "random" ∷ codes "hard"
    ∷ codes "easy" ∷ codes "post" ∷ codes "nopost" ∷ codes "?" ∷ codes "computer" ∷ codes "name" ∷ codes "rating"
    ∷ codes "ics" ∷ codes "draw" ∷ codes "level" ∷ codes "st" ∷ codes "sd" ∷ codes "time" ∷ codes "otim"
    ∷ codes "new" ∷ codes "setboard" ∷ codes "usermove" ∷ codes "undo" ∷ codes "remove" ∷ codes "result"
    ∷ codes "claim" ∷ codes "ping" ∷ codes "protover" ∷ codes "variant" ∷ codes "go" ∷ codes "showfen"
    ∷ codes "showmoves" ∷ codes "showstate" ∷ codes "showpgn" ∷ codes "quit" ∷ []

-- this line is answered as an unknown command, by its text, and the session goes on as it was
pub record IsUnknown (session : SessionSeen) (line : LineSeen) : Type 0 where
  pub text : (session_response session line).text
      ≡ codes "Error (unknown command): " ++ (line.text ++ new_line ∷ [])
  pub state : (session_response session line).state ≡ session
  pub goes_on : (session_response session line).ends ≡ false

-- in every session: a line whose first word is none of `known_words`, and which has no move's shape, is answered as an
-- unknown command
abbrev pub OtherWordsAreUnknown : Type 0
OtherWordsAreUnknown = (session : SessionSeen) (line : LineSeen) → line.too_long ≡ false
    → list_any (bytes_eq (word_of line.text)) known_words ≡ false → shape line.text ≡ false → IsUnknown session line

-- ---- lines worked out

-- the response of a session to a line with this text
abbrev pub response_to : SessionSeen → Text → Response SessionSeen
response_to session text = session_response session (record { text = codes text; too_long = false; ended = true })

-- this line gets this answer, and the session goes on as it was
pub record IsAnswered (session : SessionSeen) (line answer : Text) : Type 0 where
  pub text : (response_to session line).text ≡ codes answer
  pub state : (response_to session line).state ≡ session
  pub goes_on : (response_to session line).ends ≡ false

-- this line gets no answer, and changes nothing
abbrev pub IsIgnored : SessionSeen → Text → Type 0
IsIgnored session line = IsAnswered session line ""

-- this line gets no answer, and then the session's game is `s`
pub record Becomes (session : SessionSeen) (line : Text) (s : State) : Type 0 where
  pub text : (response_to session line).text ≡ []
  pub state : (response_to session line).state ≡ record session { state = s }

-- a line for each command that an arbiter ignores, since it plays no side (CECP, sections 8 and 9), and an empty one
abbrev pub lines_for_engines : List Text
lines_for_engines =
    "" ∷ "xboard" ∷ "accepted ping" ∷ "rejected usermove" ∷ "force" ∷ "random" ∷ "hard" ∷ "easy" ∷ "post" ∷ "nopost"
    ∷ "?" ∷ "computer" ∷ "name Sjeng" ∷ "rating 2000 1900" ∷ "ics freechess.org" ∷ "draw" ∷ "level 40 5 0" ∷ "st 30"
    ∷ "sd 4" ∷ "time 30000" ∷ "otim 29000" ∷ []

-- the line with a session's features
abbrev pub feature_line : Text
feature_line =
    "feature ping=1 setboard=1 playother=0 san=0 usermove=1 time=1 draw=1 sigint=0 sigterm=0 reuse=1 analyze=0 colors=0 debug=1 myname=\"CECP arbiter\" variants=\"normal,fischerandom\" done=1\n"

-- what this session does with some lines
pub record LinesAreAnswered (session : SessionSeen) : Type 0 where
  pub ignored : AllByRecursion (IsIgnored session) lines_for_engines
  -- a number has at most nine digits; zeros at its front mean nothing
  pub ping : IsAnswered session "ping 7" "pong 7\n"
  pub zeros : IsAnswered session "ping 007" "pong 7\n"
  pub nine_digits : IsAnswered session "ping 123456789" "pong 123456789\n"
  pub ten_digits : IsAnswered session "ping 1234567890" "Error (bad number): ping 1234567890\n"
  pub no_number : IsAnswered session "ping seven" "Error (bad number): ping seven\n"
  -- version 1 has no features, and each later version has these
  pub first_version : IsIgnored session "protover 1"
  pub features : IsAnswered session "protover 2" feature_line
  pub third_version : IsAnswered session "protover 3" feature_line
  -- `usermove` without a move
  pub no_move : IsAnswered session "usermove" "Error (unknown command): usermove\n"
  pub go : IsAnswered session "go" "Error (the arbiter plays no side): go\n"
  -- what follows `go` means nothing, and is not shown
  pub go_now : IsAnswered session "go now" "Error (the arbiter plays no side): go\n"
  pub no_result : IsAnswered session "result 2-0" "Error (bad result): result 2-0\n"
  -- a comment on a result has braces
  pub no_braces : IsAnswered session "result 1-0 Black resigns" "Error (bad result): result 1-0 Black resigns\n"
  -- nothing may follow the braces
  pub after_braces : IsAnswered session "result 1-0 {x} y" "Error (bad result): result 1-0 {x} y\n"
  pub no_variant : IsAnswered session "variant suicide" "Error (unsupported variant): variant suicide\n"
  pub new : Becomes session "new" (from_start initial_setup)
  pub chess960 : Becomes session "variant fischerandom" (from_start (initial_setup_of Fischerandom))
  pub quit : (response_to session "quit").ends ≡ true
  -- a line that is too long, whatever its first word is
  pub too_long : (session_response session (record { text = codes "quit"; too_long = true; ended = true })).text
      ≡ codes "Error (line too long): quit\n"
  -- without moves there is nothing to take back
  pub undo : session.state.moves ≡ [] → IsAnswered session "undo" "Error (command not legal now): undo\n"
  pub remove : session.state.moves ≡ [] → IsAnswered session "remove" "Error (command not legal now): remove\n"

-- every session answers as `LinesAreAnswered` says
abbrev pub SessionLinesAreAnswered : Type 0
SessionLinesAreAnswered = (session : SessionSeen) → LinesAreAnswered session

-- ---- lines of an input

-- the texts of the lines of an input that has ended, and that gave these bytes; a line of more than nine bytes is too
-- long
abbrev pub texts_of : List ℕ → List (List ℕ)
texts_of bytes = map (λ (line : LineSeen). line.text) (stream_lines 9 true bytes)

-- how an input is cut into lines
pub record LinesAreCut : Type 0 where
  -- a line's text is without a `\r` at its end, and then without spaces and tabs at both ends
  pub trimmed : texts_of (codes " go" ++ carriage_return ∷ new_line ∷ tab ∷ codes "ping 7 \n\nquit\n")
      ≡ codes "go" ∷ codes "ping 7" ∷ [] ∷ codes "quit" ∷ []
  -- a `\r` before a space is not at the line's end, so it stays
  pub returns : texts_of (codes "go \r\nquit\r \n") ≡ codes "go" ∷ codes "quit\r" ∷ []
  -- what follows the last `\n` is a line only if the input has ended
  pub last : texts_of (codes "go\nquit") ≡ codes "go" ∷ codes "quit" ∷ []
  pub unended : length (stream_lines 9 false (codes "go\nquit")) ≡ 1
  -- a line of four bytes, and one of five, where four are the most
  pub long : map (λ (line : LineSeen). line.too_long) (stream_lines 4 true (codes "quit\nquits\n"))
      ≡ false ∷ true ∷ []
  -- of a line that is too long the first 64 bytes are kept, spaces and tabs too
  pub kept : map (λ (line : LineSeen). line.text) (stream_lines 100 true (tab ∷ replicate 100 (byte "z")))
      ≡ (tab ∷ replicate 63 (byte "z")) ∷ []
