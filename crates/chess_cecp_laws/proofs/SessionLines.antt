-- What every session answers to some lines, whatever its game is. A line whose first word is none of the known ones,
-- and which has no move's shape, is an unknown command (other_words_are_unknown); the lines of specs/SessionLines are
-- answered by computing their rows (session_lines_are_answered); and an input is cut into lines (lines_are_cut).
use Prim.Native.String.{String as Text}
use Rattle.std.proofs.Common.{◌≡◌, ◌∙◌, ℕ, Bool, true, false, ◌||◌, List, [], ◌∷◌, ◌++◌, length, map, Option, None, Some, refl, sym, ap, option_map, bytes_eq, codes, if◌then◌else◌, nat_le, unwrap_or}
use Rattle.std.specs.{Fmt.digits, List.AllByRecursion, List.find, List.list_any}
use Rattle.std.proofs.{lemmas.Bool.or_parts, lemmas.List.Folds.list_any-append}
use Rattle.chess_base.specs.{declared.man.Variant.TheVariants.Fischerandom, declared.man.Move.Move, Initial.initial_setup, Initial.initial_setup_of}
use Rattle.chess_game.specs.Game.{State, from_start, taken_back}
use Rattle.chess_text.specs.Moves.{shape}
use Rattle.text_lines.specs.{Lines.LineSeen, Lines.line_of, Lines.lines_of_parts, Lines.trimmed, Words.argument_of, Words.command_number, Words.word_of}
use Rattle.chess_cecp.specs.Commands.{command_of, commands, ignored_commands, is_ignored, named_command}
use Rattle.chess_cecp.specs.{Declaring.read_result, Declaring.result_comment, Held.SessionSeen, Serving.Response, Serving.becomes, declared.command.Command.Command}
use Rattle.chess_cecp.specs.Session.{answers, features_line, row, session_response, take_back_row}
use Rattle.chess_cecp.specs.declared.command.Command.TheVariants.{BadNumber, BareMove, Declare, Go, New, Ping, Protover, Quit, Remove, Silent, Undo, Unknown, Variant}
use Rattle.chess_cecp_laws.specs.SessionLines.{Becomes, IsAnswered, IsIgnored, IsUnknown, LinesAreCut, OtherWordsAreUnknown, SessionLinesAreAnswered, feature_line, known_words, lines_for_engines, response_to}

pub if_true : {X : Type 0} (b : Bool) (x y : X) → b ≡ true → (if b then x else y) ≡ x
if_true true x y e = refl
if_true false x y e = absurd (cc)

pub if_false : {X : Type 0} (b : Bool) (x y : X) → b ≡ false → (if b then x else y) ≡ y
if_false true x y e = absurd (cc)
if_false false x y e = refl

-- a session whose game is `s`
abbrev pub with_game : SessionSeen → State → SessionSeen
with_game session s = record session { state = s }

-- how a session responds to a line with this text, which is not too long, by its command
abbrev pub by_command : SessionSeen → List ℕ → Command → Response SessionSeen
by_command session text command =
    let r = row session.tags session.limit session.state text (argument_of text) command in
    record { text = r.text; state = record session { state = r.state }; ends = r.ends }

-- the session's response to a line that is not too long and has this command is the one by the command's row
pub responds_by : (session : SessionSeen) (line : LineSeen) (command : Command) → line.too_long ≡ false
    → command_of line.text ≡ command → session_response session line ≡ by_command session line.text command
unfolding session_response
responds_by session line command fits is = rw (fits, is) refl

-- ---- words that no command has

-- the names of the commands that are not ignored
abbrev names : List (List ℕ)
names = map (λ c. c.0) (commands [])

-- the names don't depend on the argument
same_names : (argument : List ℕ) → map (λ c. c.0) (commands argument) ≡ names
same_names argument = refl

-- a word that is no name of these commands finds none of them
none_found : (word : List ℕ) (cs : List (List ℕ × Command)) → list_any (bytes_eq word) (map (λ c. c.0) cs) ≡ false
    → find (λ c. bytes_eq word c.0) cs ≡ None
none_found word [] e = refl
none_found word (c ∷ cs) e =
    let parts = or_parts (bytes_eq word c.0) (list_any (bytes_eq word) (map (λ d. d.0) cs)) e in
    if_false (bytes_eq word c.0) (Some c) (find (λ d. bytes_eq word d.0) cs) parts.0 ∙ none_found word cs parts.1

-- the words that a session knows: the empty one, those that are ignored, and the others
by_kind : (word : List ℕ) → list_any (bytes_eq word) known_words
    ≡ (bytes_eq word [] || list_any (bytes_eq word) (ignored_commands ++ names))
by_kind word = refl

-- the value of `named_command` for a word that is not empty, not ignored and not found
none_named : (empty ignored : Bool) (found : Option (List ℕ × Command)) → empty ≡ false → ignored ≡ false
    → found ≡ None → (if empty || ignored then Some Silent else option_map (λ c. c.1) found) ≡ None
none_named false false None e f g = refl
none_named false false (Some c) e f g = absurd (cc)
none_named false true found e f g = absurd (cc)
none_named true ignored found e f g = absurd (cc)

-- a word that is none of the known ones names no command
pub no_name : (word argument : List ℕ) → list_any (bytes_eq word) known_words ≡ false
    → named_command word argument ≡ None
unfolding named_command is_ignored
no_name word argument e =
    let p : List ℕ → Bool = bytes_eq word in
    let first = or_parts (p []) (list_any p (ignored_commands ++ names)) (sym (by_kind word) ∙ e) in
    let others = or_parts (list_any p ignored_commands) (list_any p names)
    (sym (list_any-append p ignored_commands names) ∙ first.1) in
    let empty : bytes_eq word [] ≡ false = first.0 in
    let ignored : list_any (bytes_eq word) ignored_commands ≡ false = others.0 in
    let none : find (λ c. bytes_eq word c.0) (commands argument) ≡ None =
    none_found word (commands argument) (ap (list_any p) (same_names argument) ∙ others.1) in
    none_named (bytes_eq word []) (list_any (bytes_eq word) ignored_commands)
    (find (λ c. bytes_eq word c.0) (commands argument)) empty ignored none

-- the value of `command_of` for a text that names no command and has no move's shape
neither : (named : Option Command) (shaped : Bool) → named ≡ None → shaped ≡ false
    → unwrap_or named (if shaped then BareMove else Unknown) ≡ Unknown
neither None false e f = refl
neither None true e f = absurd (cc)
neither (Some c) shaped e f = absurd (cc)

-- a text whose first word is none of the known ones, and that has no move's shape, is an unknown command
is_unknown : (text : List ℕ) → list_any (bytes_eq (word_of text)) known_words ≡ false → shape text ≡ false
    → command_of text ≡ Unknown
unfolding command_of
is_unknown text other shapeless =
    let none : named_command (word_of text) (argument_of text) ≡ None =
    no_name (word_of text) (argument_of text) other in
    neither (named_command (word_of text) (argument_of text)) (shape text) none shapeless

pub other_words_are_unknown : OtherWordsAreUnknown
other_words_are_unknown session line fits other shapeless =
    let e = responds_by session line Unknown fits (is_unknown line.text other shapeless) in record {
      text = ap (λ (r : Response SessionSeen). r.text) e;
      state = ap (λ (r : Response SessionSeen). r.state) e;
      goes_on = ap (λ (r : Response SessionSeen). r.ends) e;
    }

-- ---- lines worked out

-- the response to a line with this text, by its command
pub responds : (session : SessionSeen) (line : Text) (command : Command) → command_of (codes line) ≡ command
    → response_to session line ≡ by_command session (codes line) command
responds session line command is =
    responds_by session (record { text = codes line; too_long = false; ended = true }) command refl is

-- a line is answered by `answer`, and changes nothing, if the row of its command says so
pub answered : (session : SessionSeen) (line answer : Text) (command : Command) → command_of (codes line) ≡ command
    → (by_command session (codes line) command).text ≡ codes answer
    → (by_command session (codes line) command).state ≡ session
    → (by_command session (codes line) command).ends ≡ false → IsAnswered session line answer
answered session line answer command is text state goes_on =
    let e = responds session line command is in record {
      text = ap (λ (r : Response SessionSeen). r.text) e ∙ text;
      state = ap (λ (r : Response SessionSeen). r.state) e ∙ state;
      goes_on = ap (λ (r : Response SessionSeen). r.ends) e ∙ goes_on;
    }

-- a line whose command has no effect is ignored
silent : (session : SessionSeen) (line : Text) → command_of (codes line) ≡ Silent → IsIgnored session line
silent session line is = answered session line "" Silent is refl refl refl

-- each of the lines for engines, such as `xboard` or `level 40 5 0`, is ignored: nested pairs, a proof for each line of
-- the list
ignored : (session : SessionSeen) → AllByRecursion (IsIgnored session) lines_for_engines
unfolding command_of named_command is_ignored
ignored session = (
  silent session "" refl,
  (
    silent session "xboard" refl,
    (
      silent session "accepted ping" refl,
      (
        silent session "rejected usermove" refl,
        (
          silent session "force" refl,
          (
            silent session "random" refl,
            (
              silent session "hard" refl,
              (
                silent session "easy" refl,
                (
                  silent session "post" refl,
                  (
                    silent session "nopost" refl,
                    (
                      silent session "?" refl,
                      (
                        silent session "computer" refl,
                        (
                          silent session "name Sjeng" refl,
                          (
                            silent session "rating 2000 1900" refl,
                            (
                              silent session "ics freechess.org" refl,
                              (
                                silent session "draw" refl,
                                (
                                  silent session "level 40 5 0" refl,
                                  (
                                    silent session "st 30" refl,
                                    (
                                      silent session "sd 4" refl,
                                      (
                                        silent session "time 30000" refl,
                                        (
                                          silent session "otim 29000" refl,
                                          tt,
                                        ),
                                      ),
                                    ),
                                  ),
                                ),
                              ),
                            ),
                          ),
                        ),
                      ),
                    ),
                  ),
                ),
              ),
            ),
          ),
        ),
      ),
    ),
  ),
)

ping : (session : SessionSeen) → IsAnswered session "ping 7" "pong 7\n"
unfolding argument_of command_number command_of named_command is_ignored digits
ping session = answered session "ping 7" "pong 7\n" (Ping 7) refl refl refl refl

zeros : (session : SessionSeen) → IsAnswered session "ping 007" "pong 7\n"
unfolding argument_of command_number command_of named_command is_ignored digits
zeros session = answered session "ping 007" "pong 7\n" (Ping 7) refl refl refl refl

nine_digits : (session : SessionSeen) → IsAnswered session "ping 123456789" "pong 123456789\n"
unfolding argument_of command_number command_of named_command is_ignored digits
nine_digits session = answered session "ping 123456789" "pong 123456789\n" (Ping 123456789) refl refl refl refl

ten_digits : (session : SessionSeen)
    → IsAnswered session "ping 1234567890" "Error (bad number): ping 1234567890\n"
unfolding argument_of command_number command_of named_command is_ignored
ten_digits session =
    answered session "ping 1234567890" "Error (bad number): ping 1234567890\n" BadNumber refl refl refl refl

no_number : (session : SessionSeen) → IsAnswered session "ping seven" "Error (bad number): ping seven\n"
unfolding argument_of command_number command_of named_command is_ignored
no_number session =
    answered session "ping seven" "Error (bad number): ping seven\n" BadNumber refl refl refl refl

first_version : (session : SessionSeen) → IsIgnored session "protover 1"
unfolding argument_of command_number command_of named_command is_ignored
first_version session = answered session "protover 1" "" (Protover 1) refl refl refl refl

features : (session : SessionSeen) → IsAnswered session "protover 2" feature_line
unfolding argument_of command_number command_of named_command is_ignored features_line
features session = answered session "protover 2" feature_line (Protover 2) refl refl refl refl

third_version : (session : SessionSeen) → IsAnswered session "protover 3" feature_line
unfolding argument_of command_number command_of named_command is_ignored features_line
third_version session = answered session "protover 3" feature_line (Protover 3) refl refl refl refl

no_move : (session : SessionSeen) → IsAnswered session "usermove" "Error (unknown command): usermove\n"
unfolding argument_of command_of named_command is_ignored
no_move session = answered session "usermove" "Error (unknown command): usermove\n" Unknown refl refl refl refl

goes : (session : SessionSeen) → IsAnswered session "go" "Error (the arbiter plays no side): go\n"
unfolding command_of named_command is_ignored
goes session = answered session "go" "Error (the arbiter plays no side): go\n" Go refl refl refl refl

goes_now : (session : SessionSeen) → IsAnswered session "go now" "Error (the arbiter plays no side): go\n"
unfolding command_of named_command is_ignored
goes_now session = answered session "go now" "Error (the arbiter plays no side): go\n" Go refl refl refl refl

no_result : (session : SessionSeen) → IsAnswered session "result 2-0" "Error (bad result): result 2-0\n"
unfolding argument_of command_of named_command is_ignored read_result result_comment
no_result session =
    answered session "result 2-0" "Error (bad result): result 2-0\n" Declare refl refl refl refl

no_braces : (session : SessionSeen)
    → IsAnswered session "result 1-0 Black resigns" "Error (bad result): result 1-0 Black resigns\n"
unfolding argument_of command_of named_command is_ignored read_result result_comment
no_braces session = answered session "result 1-0 Black resigns" "Error (bad result): result 1-0 Black resigns\n"
    Declare refl refl refl refl

after_braces : (session : SessionSeen)
    → IsAnswered session "result 1-0 {x} y" "Error (bad result): result 1-0 {x} y\n"
unfolding argument_of command_of named_command is_ignored read_result result_comment
after_braces session =
    answered session "result 1-0 {x} y" "Error (bad result): result 1-0 {x} y\n" Declare refl refl refl refl

no_variant : (session : SessionSeen)
    → IsAnswered session "variant suicide" "Error (unsupported variant): variant suicide\n"
unfolding argument_of command_of named_command is_ignored
no_variant session =
    answered session "variant suicide" "Error (unsupported variant): variant suicide\n" Variant refl refl refl refl

begins : (session : SessionSeen) → Becomes session "new" (from_start initial_setup)
unfolding command_of named_command is_ignored
begins session =
    let e = responds session "new" New refl in record {
      text = ap (λ (r : Response SessionSeen). r.text) e;
      state = ap (λ (r : Response SessionSeen). r.state) e;
    }

chess960 : (session : SessionSeen)
    → Becomes session "variant fischerandom" (from_start (initial_setup_of Fischerandom))
unfolding argument_of command_of named_command is_ignored
chess960 session =
    let e = responds session "variant fischerandom" Variant refl in record {
      text = ap (λ (r : Response SessionSeen). r.text) e;
      state = ap (λ (r : Response SessionSeen). r.state) e;
    }

quits : (session : SessionSeen) → (response_to session "quit").ends ≡ true
unfolding command_of named_command is_ignored
quits session = ap (λ (r : Response SessionSeen). r.ends) (responds session "quit" Quit refl)

-- a line that is too long is refused, even if it begins as `quit`
too_long : (session : SessionSeen)
    → (session_response session (record { text = codes "quit"; too_long = true; ended = true })).text
    ≡ codes "Error (line too long): quit\n"
unfolding session_response
too_long session = refl

-- a game without moves: `undo` and `remove` are refused
none_back : (name : List ℕ) (s : State) → s.moves ≡ []
    → (take_back_row 1 name s ≡ answers s (codes "Error (command not legal now): ") name)
    × (take_back_row 2 name s ≡ answers s (codes "Error (command not legal now): ") name)
none_back name s e = (
  if_false (nat_le 1 (length s.moves)) (becomes (taken_back s 1))
      (answers s (codes "Error (command not legal now): ") name) (ap (λ (ms : List Move). nat_le 1 (length ms)) e),
  if_false (nat_le 2 (length s.moves)) (becomes (taken_back s 2))
      (answers s (codes "Error (command not legal now): ") name) (ap (λ (ms : List Move). nat_le 2 (length ms)) e),
)

no_undo : (session : SessionSeen) → session.state.moves ≡ []
    → IsAnswered session "undo" "Error (command not legal now): undo\n"
unfolding command_of named_command is_ignored
no_undo session e =
    let none = (none_back (codes "undo") session.state e).0 in
    answered session "undo" "Error (command not legal now): undo\n" Undo refl
    (ap (λ (r : Response State). r.text) none)
    (ap (λ (r : Response State). with_game session r.state) none)
    (ap (λ (r : Response State). r.ends) none)

no_remove : (session : SessionSeen) → session.state.moves ≡ []
    → IsAnswered session "remove" "Error (command not legal now): remove\n"
unfolding command_of named_command is_ignored
no_remove session e =
    let none = (none_back (codes "remove") session.state e).1 in
    answered session "remove" "Error (command not legal now): remove\n" Remove refl
    (ap (λ (r : Response State). r.text) none)
    (ap (λ (r : Response State). with_game session r.state) none)
    (ap (λ (r : Response State). r.ends) none)

pub session_lines_are_answered : SessionLinesAreAnswered
session_lines_are_answered session = record {
  ignored = ignored session;
  ping = ping session;
  zeros = zeros session;
  nine_digits = nine_digits session;
  ten_digits = ten_digits session;
  no_number = no_number session;
  first_version = first_version session;
  features = features session;
  third_version = third_version session;
  no_move = no_move session;
  go = goes session;
  go_now = goes_now session;
  no_result = no_result session;
  no_braces = no_braces session;
  after_braces = after_braces session;
  no_variant = no_variant session;
  new = begins session;
  chess960 = chess960 session;
  quit = quits session;
  too_long = too_long session;
  undo = no_undo session;
  remove = no_remove session;
}

-- ---- lines of an input

pub lines_are_cut : LinesAreCut
unfolding trimmed line_of lines_of_parts
lines_are_cut = record { trimmed = refl; returns = refl; last = refl; unended = refl; long = refl; kept = refl }
