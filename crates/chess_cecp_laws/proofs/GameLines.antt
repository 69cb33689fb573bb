-- The examples of specs/GameLines: what a session answers to lines such as `usermove e4`, `undo` or `claim`, depending
-- on its game, and what the game is then (game_lines_are_answered): first the rows of the session's table that these
-- lines need, then each line. By computation: how claims are shown (claims_are_shown), results read (results_are_read),
-- and faults of a FEN named (faults_are_named).
use Prim.Native.String.{String as Text}
use Rattle.std.proofs.Common.{◌≡◌, ◌∙◌, ◌-◌, ◌<◌, ◌≤◌, ℕ, Bool, true, false, List, [], ◌∷◌, ◌++◌, length, Option, None, Some, refl, ap, arith, codes, if◌then◌else◌, nat_le, take, Err}
use Rattle.std.specs.Option.{option_map_or}
use Rattle.std.proofs.{lemmas.Bool.lt-leb, lemmas.Bool.Decides.nat_tests}
use Rattle.byte_devices.specs.Bytes.{new_line}
use Rattle.chess_base.specs.Attacks.{is_clear, could_capture, attacks, is_attacked, is_in_check}
use Rattle.chess_base.specs.{Castling.king_square, Castling.right_is_sound, Faults.rights_are_sound, Men.is_of, Men.is_man, Initial.initial_setup, declared.man.Move.Move, declared.fen_fault.FenFault.FenFault, declared.man.Variant.Variant, declared.man.Variant.TheVariants.Normal, declared.man.Variant.TheVariants.Fischerandom}
use Rattle.chess_base.specs.MoveList as list
use Rattle.chess_base.specs.Sound.{has_one_king, no_pawn_on_end_ranks, has_at_most_16, target_is_sound}
use Rattle.chess_base.specs.Squares.{squares, some_square, each_square, is_between}
use Rattle.chess_base.specs.declared.fen_fault.FenFault.TheVariants as faults
use Rattle.chess_fen.specs.{Reading.fen_reading_as, Texts.may_name_right, Writing.fen}
use Rattle.chess_game.specs.Ends.{claim_comment, claims, draw_claim, result_text, verdict_result}
use Rattle.chess_game.specs.Game.{State, contradicts_verdict, current, from_start, is_over, played, taken_back, verdict_now}
use Rattle.chess_game.specs.{declared.results.Declared.Declared, declared.results.Outcome.TheVariants.WhiteWins, declared.results.Outcome.TheVariants.Draw, declared.verdicts.DrawClaim.DrawClaim, declared.verdicts.DrawClaim.TheVariants.Threefold, declared.verdicts.DrawClaim.TheVariants.FiftyMoves, declared.verdicts.Verdict.Verdict, declared.verdicts.Verdict.TheVariants.WhiteMates, declared.verdicts.Verdict.TheVariants.BlackMates, declared.verdicts.Verdict.TheVariants.Stalemate}
use Rattle.chess_text.specs.{Moves.reading, San.is_fischerandom, declared.reading.Reading.Reading}
use Rattle.chess_text.specs.declared.reading.Reading.TheVariants as reads
use Rattle.text_lines.specs.Words.{argument_of}
use Rattle.chess_cecp.specs.{Commands.command_of, Commands.is_ignored, Commands.named_command, Declaring.read_result, Declaring.result_comment, Declaring.state_text, Held.SessionSeen, Serving.Response, Serving.becomes, Serving.says, declared.command.Command.Command}
use Rattle.pgn_writer.specs.{GameText.pgn, declared.tags.Tags.Tags}
use Rattle.chess_cecp.specs.Session.{answers, becomes_judged, claim_row, declares, move_row, moves_text, reading_row, result_row, row, setboard_row, take_back_row}
use Rattle.chess_cecp.specs.declared.command.Command.TheVariants.{Claim, Declare, Remove, SetBoard, ShowFen, ShowMoves, ShowPgn, ShowState, Undo, UserMove}
use Rattle.chess_cecp.specs.declared.command.Command.TheVariants as commands
use Rattle.chess_cecp_laws.specs.{GameLines.after_e4, GameLines.black_resigned, GameLines.ClaimsAreShown, GameLines.Declares, GameLines.FaultsAreNamed, GameLines.GameLinesAreAnswered, GameLines.Plays, GameLines.ResultsAreRead, GameLines.unknown_tags, SessionLines.Becomes, SessionLines.IsAnswered, SessionLines.IsIgnored, SessionLines.response_to}
use Rattle.chess_cecp_laws.proofs.SessionLines.{answered, if_false, if_true, responds, with_game}
use Rattle.chess_cecp_laws.proofs.ShownLines.{fen_shown, moves_shown, pgn_shown, result_shown, stalemate_set, state_shown}

-- the row of this line in the table
abbrev row_of : SessionSeen → List ℕ → Command → Response State
row_of session text command = row session.tags session.limit session.state text (argument_of text) command

-- a line is answered as its row says
by_row : (session : SessionSeen) (line answer : Text) (command : Command) (reply : Response State)
    → command_of (codes line) ≡ command → row_of session (codes line) command ≡ reply → reply.text ≡ codes answer
    → reply.state ≡ session.state → reply.ends ≡ false → IsAnswered session line answer
by_row session line answer command reply is e text state goes_on =
    answered session line answer command is (ap (λ (r : Response State). r.text) e ∙ text)
    (ap (λ (r : Response State). with_game session r.state) e ∙ ap (with_game session) state)
    (ap (λ (r : Response State). r.ends) e ∙ goes_on)

-- the state with this result declared
abbrev result_in : State → Declared → State
result_in s d = record s { declared = Some d }

-- ---- rows

-- a move after the game's end
over_move : (limit : ℕ) (s : State) (text : List ℕ) → is_over s ≡ true
    → move_row limit s text ≡ answers s (codes "Illegal move (game over): ") text
over_move limit s text e =
    if_true (is_over s) (answers s (codes "Illegal move (game over): ") text)
    (if nat_le limit (length s.moves) then answers s (codes "Error (game too long): ") text
    else reading_row s text (reading (current s) text)) e

-- a limit that is reached, as the row tests it
full : (a b : ℕ) → a ≤ b → nat_le a b ≡ true
full a b h = grind (arith, nat_tests, h)

-- a move when the game has as many half-moves as the limit allows, or more
long_move : (limit : ℕ) (s : State) (text : List ℕ) → is_over s ≡ false → limit ≤ length s.moves
    → move_row limit s text ≡ answers s (codes "Error (game too long): ") text
long_move limit s text e h =
    if_false (is_over s) (answers s (codes "Illegal move (game over): ") text)
    (if nat_le limit (length s.moves) then answers s (codes "Error (game too long): ") text
    else reading_row s text (reading (current s) text)) e
    ∙ if_true (nat_le limit (length s.moves)) (answers s (codes "Error (game too long): ") text)
    (reading_row s text (reading (current s) text)) (full limit (length s.moves) h)

-- a move's text in a game that is not over and has room: the answer depends only on what the text denotes (`read`)
read_move : (limit : ℕ) (s : State) (text : List ℕ) (read : Reading) → is_over s ≡ false → length s.moves < limit
    → reading (current s) text ≡ read → move_row limit s text ≡ reading_row s text read
read_move limit s text read e h is =
    if_false (is_over s) (answers s (codes "Illegal move (game over): ") text)
    (if nat_le limit (length s.moves) then answers s (codes "Error (game too long): ") text
    else reading_row s text (reading (current s) text)) e
    ∙ if_false (nat_le limit (length s.moves)) (answers s (codes "Error (game too long): ") text)
    (reading_row s text (reading (current s) text)) (lt-leb limit (length s.moves) h)
    ∙ ap (reading_row s text) is

-- the response that keeps the game `s` and answers the line of this verdict, or nothing without one
abbrev judged_by : State → Option Verdict → Response State
judged_by s v = says s (option_map_or (λ x. result_text (verdict_result x) ++ new_line ∷ []) v [])

judged : (s : State) (v : Option Verdict) → verdict_now s ≡ v → becomes_judged s ≡ judged_by s v
judged s v e = ap (judged_by s) e

-- the game with these moves, and no declared result
abbrev with_moves : State → List Move → State
with_moves s ms = record s { moves = ms; declared = None }

-- `undo` takes back one move, and `remove` two, of a game of one, two or three moves
one_back : (s : State) (m : Move) → s.moves ≡ m ∷ []
    → take_back_row 1 (codes "undo") s ≡ becomes (from_start s.start)
one_back s m e =
    if_true (nat_le 1 (length s.moves)) (becomes (taken_back s 1))
    (answers s (codes "Error (command not legal now): ") (codes "undo"))
    (ap (λ (ms : List Move). nat_le 1 (length ms)) e)
    ∙ ap (λ (ms : List Move). becomes (with_moves s (take (length ms - 1) ms))) e

two_back : (s : State) (m n : Move) → s.moves ≡ m ∷ n ∷ []
    → take_back_row 2 (codes "remove") s ≡ becomes (from_start s.start)
two_back s m n e =
    if_true (nat_le 2 (length s.moves)) (becomes (taken_back s 2))
    (answers s (codes "Error (command not legal now): ") (codes "remove"))
    (ap (λ (ms : List Move). nat_le 2 (length ms)) e)
    ∙ ap (λ (ms : List Move). becomes (with_moves s (take (length ms - 2) ms))) e

two_of_three_back : (s : State) (m n o : Move) → s.moves ≡ m ∷ n ∷ o ∷ []
    → take_back_row 2 (codes "remove") s ≡ becomes (with_moves s (m ∷ []))
two_of_three_back s m n o e =
    if_true (nat_le 2 (length s.moves)) (becomes (taken_back s 2))
    (answers s (codes "Error (command not legal now): ") (codes "remove"))
    (ap (λ (ms : List Move). nat_le 2 (length ms)) e)
    ∙ ap (λ (ms : List Move). becomes (with_moves s (take (length ms - 2) ms))) e

not_two_back : (s : State) (m : Move) → s.moves ≡ m ∷ []
    → take_back_row 2 (codes "remove") s
    ≡ answers s (codes "Error (command not legal now): ") (codes "remove")
not_two_back s m e =
    if_false (nat_le 2 (length s.moves)) (becomes (taken_back s 2))
    (answers s (codes "Error (command not legal now): ") (codes "remove"))
    (ap (λ (ms : List Move). nat_le 2 (length ms)) e)

-- the response to `claim` in a game that is not over, by the draw that can be claimed, if there is one
abbrev claimed : State → Option DrawClaim → Response State
claimed s claim =
    option_map_or (λ c. declares s (record { outcome = Draw; comment = claim_comment c })) claim
    (answers s (codes "Error (no claim): ") (codes "claim"))

-- `claim` after the game's end
over_claim : (s : State) → is_over s ≡ true
    → claim_row s ≡ answers s (codes "Error (command not legal now): ") (codes "claim")
over_claim s e =
    if_true (is_over s) (answers s (codes "Error (command not legal now): ") (codes "claim"))
    (claimed s (draw_claim (claims s.start s.moves))) e

-- `claim` in a game that is not over, by the draw that can be claimed
on_claim : (s : State) (claim : Option DrawClaim) → is_over s ≡ false → draw_claim (claims s.start s.moves) ≡ claim
    → claim_row s ≡ claimed s claim
on_claim s claim e is =
    if_false (is_over s) (answers s (codes "Error (command not legal now): ") (codes "claim"))
    (claimed s (draw_claim (claims s.start s.moves))) e ∙ ap (claimed s) is

-- a result whose comment was sent with braces in it
abbrev without_braces : Declared
without_braces = record { outcome = WhiteWins; comment = codes "Black ?resigns?" }

braces_read : read_result (argument_of (codes "result 1-0 {Black {resigns}}")) ≡ Some without_braces
unfolding argument_of read_result result_comment
braces_read = refl

-- it is declared, if the board has no verdict
braces_taken : (s : State) (text : List ℕ) → verdict_now s ≡ None
    → result_row s text (read_result (argument_of (codes "result 1-0 {Black {resigns}}")))
    ≡ becomes (result_in s without_braces)
braces_taken s text e =
    ap (result_row s text) braces_read
    ∙ if_false (contradicts_verdict (verdict_now s) WhiteWins)
    (answers s (codes "Error (the board says otherwise): ") text) (becomes (result_in s without_braces))
    (ap (λ (w : Option Verdict). contradicts_verdict w WhiteWins) e)

-- the result that `result 1-0 {Black resigns}` denotes
result_read : read_result (argument_of (codes "result 1-0 {Black resigns}")) ≡ Some black_resigned
unfolding argument_of read_result result_comment
result_read = refl

-- `result 1-0 {Black resigns}` is declared, unless the board's verdict (`v`) has another outcome
result_taken : (s : State) (text : List ℕ) (v : Option Verdict) → verdict_now s ≡ v
    → contradicts_verdict v WhiteWins ≡ false
    → result_row s text (read_result (argument_of (codes "result 1-0 {Black resigns}")))
    ≡ becomes (result_in s black_resigned)
result_taken s text v e same =
    ap (result_row s text) result_read
    ∙ if_false (contradicts_verdict (verdict_now s) WhiteWins)
    (answers s (codes "Error (the board says otherwise): ") text) (becomes (result_in s black_resigned))
    (ap (λ (w : Option Verdict). contradicts_verdict w WhiteWins) e ∙ same)

-- it is refused, if the verdict has another outcome
result_refused : (s : State) (text : List ℕ) (v : Option Verdict) → verdict_now s ≡ v
    → contradicts_verdict v WhiteWins ≡ true
    → result_row s text (read_result (argument_of (codes "result 1-0 {Black resigns}")))
    ≡ answers s (codes "Error (the board says otherwise): ") text
result_refused s text v e other =
    ap (result_row s text) result_read
    ∙ if_true (contradicts_verdict (verdict_now s) WhiteWins)
    (answers s (codes "Error (the board says otherwise): ") text) (becomes (result_in s black_resigned))
    (ap (λ (w : Option Verdict). contradicts_verdict w WhiteWins) e ∙ other)

-- `setboard`, in normal chess, with a FEN that has this fault
fen_row : (s : State) (text : List ℕ) (fault : FenFault) → s.start.variant ≡ Normal
    → fen_reading_as Normal text ≡ Err fault
    → setboard_row s (fen_reading_as s.start.variant text) ≡ setboard_row s (Err fault)
fen_row s text fault e read =
    ap (λ (v : Variant). setboard_row s (fen_reading_as v text)) e ∙ ap (setboard_row s) read

-- `e4` is refused for its missing fields, and a board with a single king for that; by computation
no_fields : fen_reading_as Normal (argument_of (codes "setboard e4")) ≡ Err faults.Fields
unfolding argument_of
no_fields = refl

one_king : fen_reading_as Normal (argument_of (codes "setboard 8/8/8/8/8/8/8/4K3 w - - 0 1")) ≡ Err faults.Kings
unfolding argument_of squares some_square each_square is_between is_of is_man is_clear could_capture attacks is_attacked
    is_in_check king_square right_is_sound rights_are_sound has_one_king no_pawn_on_end_ranks has_at_most_16
    target_is_sound may_name_right
one_king = refl

-- ---- the lines

module _ (session : SessionSeen) where
  abbrev s : State
  s = session.state

  move_after_end : is_over s ≡ true → IsAnswered session "usermove e4" "Illegal move (game over): e4\n"
  unfolding argument_of command_of named_command is_ignored
  move_after_end e =
      by_row session "usermove e4" "Illegal move (game over): e4\n" UserMove
      (answers s (codes "Illegal move (game over): ") (codes "e4")) refl (over_move session.limit s (codes "e4") e)
      refl refl refl

  too_long : is_over s ≡ false → session.limit ≤ length s.moves
      → IsAnswered session "usermove e4" "Error (game too long): e4\n"
  unfolding argument_of command_of named_command is_ignored
  too_long e h =
      by_row session "usermove e4" "Error (game too long): e4\n" UserMove
      (answers s (codes "Error (game too long): ") (codes "e4")) refl (long_move session.limit s (codes "e4") e h)
      refl refl refl

  -- `usermove e4` that denotes the move `m`: it is played, and the answer is the line of the verdict `v` after it
  on_move : (answer : Text) (m : Move) (v : Option Verdict) → is_over s ≡ false → length s.moves < session.limit
      → reading (current s) (codes "e4") ≡ reads.Move m → verdict_now (played s m) ≡ v
      → (judged_by (played s m) v).text ≡ codes answer → Plays session "usermove e4" answer m
  unfolding argument_of command_of named_command is_ignored
  on_move answer m v e h is verdict text =
      let first = responds session "usermove e4" UserMove refl in
      let reply : move_row session.limit s (codes "e4") ≡ judged_by (played s m) v =
      read_move session.limit s (codes "e4") (reads.Move m) e h is ∙ judged (played s m) v verdict in record {
        text = ap (λ (r : Response SessionSeen). r.text) first ∙ ap (λ (r : Response State). r.text) reply ∙ text;
        state = ap (λ (r : Response SessionSeen). r.state) first
            ∙ ap (λ (r : Response State). with_game session r.state) reply;
      }

  quiet_move : (m : Move) → is_over s ≡ false → length s.moves < session.limit
      → reading (current s) (codes "e4") ≡ reads.Move m → verdict_now (played s m) ≡ None
      → Plays session "usermove e4" "" m
  quiet_move m e h is none = on_move "" m None e h is none refl

  mating_move : (m : Move) → is_over s ≡ false → length s.moves < session.limit
      → reading (current s) (codes "e4") ≡ reads.Move m → verdict_now (played s m) ≡ Some WhiteMates
      → Plays session "usermove e4" "1-0 {White mates}\n" m
  unfolding result_text
  mating_move m e h is mates = on_move "1-0 {White mates}\n" m (Some WhiteMates) e h is mates refl

  several_moves : is_over s ≡ false → length s.moves < session.limit
      → reading (current s) (codes "e4") ≡ reads.Ambiguous
      → IsAnswered session "usermove e4" "Error (ambiguous move): e4\n"
  unfolding argument_of command_of named_command is_ignored
  several_moves e h is =
      by_row session "usermove e4" "Error (ambiguous move): e4\n" UserMove
      (answers s (codes "Error (ambiguous move): ") (codes "e4")) refl
      (read_move session.limit s (codes "e4") reads.Ambiguous e h is) refl refl refl

  no_move : is_over s ≡ false → length s.moves < session.limit
      → reading (current s) (codes "e4") ≡ reads.NoSuch → IsAnswered session "usermove e4" "Illegal move: e4\n"
  unfolding argument_of command_of named_command is_ignored
  no_move e h is =
      by_row session "usermove e4" "Illegal move: e4\n" UserMove
      (answers s (codes "Illegal move: ") (codes "e4")) refl
      (read_move session.limit s (codes "e4") reads.NoSuch e h is) refl refl refl

  undo : (m : Move) → s.moves ≡ m ∷ [] → Becomes session "undo" (from_start s.start)
  unfolding command_of named_command is_ignored
  undo m e =
      let first = responds session "undo" Undo refl in
      let back = one_back s m e in record {
        text = ap (λ (r : Response SessionSeen). r.text) first ∙ ap (λ (r : Response State). r.text) back;
        state = ap (λ (r : Response SessionSeen). r.state) first
            ∙ ap (λ (r : Response State). with_game session r.state) back;
      }

  remove_one : (m : Move) → s.moves ≡ m ∷ []
      → IsAnswered session "remove" "Error (command not legal now): remove\n"
  unfolding command_of named_command is_ignored
  remove_one m e =
      by_row session "remove" "Error (command not legal now): remove\n" Remove
      (answers s (codes "Error (command not legal now): ") (codes "remove")) refl (not_two_back s m e) refl refl refl

  remove : (m n : Move) → s.moves ≡ m ∷ n ∷ [] → Becomes session "remove" (from_start s.start)
  unfolding command_of named_command is_ignored
  remove m n e =
      let first = responds session "remove" Remove refl in
      let back = two_back s m n e in record {
        text = ap (λ (r : Response SessionSeen). r.text) first ∙ ap (λ (r : Response State). r.text) back;
        state = ap (λ (r : Response SessionSeen). r.state) first
            ∙ ap (λ (r : Response State). with_game session r.state) back;
      }

  remove_two : (m n o : Move) → s.moves ≡ m ∷ n ∷ o ∷ [] → Becomes session "remove" (with_moves s (m ∷ []))
  unfolding command_of named_command is_ignored
  remove_two m n o e =
      let first = responds session "remove" Remove refl in
      let back = two_of_three_back s m n o e in record {
        text = ap (λ (r : Response SessionSeen). r.text) first ∙ ap (λ (r : Response State). r.text) back;
        state = ap (λ (r : Response SessionSeen). r.state) first
            ∙ ap (λ (r : Response State). with_game session r.state) back;
      }

  normal : s.start.variant ≡ Fischerandom → Becomes session "variant normal" (from_start initial_setup)
  unfolding argument_of command_of named_command is_ignored
  normal e =
      let first = responds session "variant normal" commands.Variant refl in record {
        text = ap (λ (r : Response SessionSeen). r.text) first;
        state = ap (λ (r : Response SessionSeen). r.state) first
            ∙ ap (with_game session) (if_true (is_fischerandom s.start.variant) (from_start initial_setup) s
            (ap is_fischerandom e));
      }

  still_normal : s.start.variant ≡ Normal → IsIgnored session "variant normal"
  unfolding argument_of command_of named_command is_ignored
  still_normal e =
      answered session "variant normal" "" commands.Variant refl refl
      (ap (with_game session) (if_false (is_fischerandom s.start.variant) (from_start initial_setup) s
      (ap is_fischerandom e))) refl

  -- what is shown of the game
  abbrev shows : List ℕ → List ℕ → List ℕ
  shows front text = front ++ (text ++ new_line ∷ [])

  fen_line : s ≡ from_start initial_setup
      → IsAnswered session "showfen" "# fen rnbqkbnr/pppppppp/8/8/8/8/PPPPPPPP/RNBQKBNR w KQkq - 0 1\n"
  unfolding command_of named_command is_ignored
  fen_line e =
      by_row session "showfen" "# fen rnbqkbnr/pppppppp/8/8/8/8/PPPPPPPP/RNBQKBNR w KQkq - 0 1\n" ShowFen
      (answers s (codes "# fen ") (fen (current s))) refl refl
      (ap (shows (codes "# fen ")) (ap (λ (x : State). fen (current x)) e ∙ fen_shown)) refl refl

  moves_line : s ≡ from_start initial_setup → IsAnswered session "showmoves"
      "# moves 20 b1a3 b1c3 g1f3 g1h3 a2a3 a2a4 b2b3 b2b4 c2c3 c2c4 d2d3 d2d4 e2e3 e2e4 f2f3 f2f4 g2g3 g2g4 h2h3 h2h4\n"
  unfolding command_of named_command is_ignored
  moves_line e =
      by_row session "showmoves" _ ShowMoves
      (answers s (codes "# moves ") (moves_text (current s) (list.moves (current s)))) refl refl
      (ap (shows (codes "# moves "))
      (ap (λ (x : State). moves_text (current x) (list.moves (current x))) e ∙ moves_shown)) refl refl

  state_line : s ≡ from_start initial_setup → IsAnswered session "showstate"
      "# state ply 0 rep 1 clock 0 claims none verdict none declared none\n"
  unfolding command_of named_command is_ignored
  state_line e =
      by_row session "showstate" "# state ply 0 rep 1 clock 0 claims none verdict none declared none\n" ShowState
      (answers s (codes "# state ply ") (state_text s)) refl refl
      (ap (shows (codes "# state ply ")) (ap state_text e ∙ state_shown)) refl refl

  result_line : s ≡ record after_e4 { declared = Some black_resigned } → IsAnswered session "showstate"
      "# state ply 1 rep 1 clock 0 claims none verdict none declared 1-0 {Black resigns}\n"
  unfolding command_of named_command is_ignored
  result_line e =
      by_row session "showstate"
      "# state ply 1 rep 1 clock 0 claims none verdict none declared 1-0 {Black resigns}\n" ShowState
      (answers s (codes "# state ply ") (state_text s)) refl refl
      (ap (shows (codes "# state ply ")) (ap state_text e ∙ result_shown)) refl refl

  pgn_lines : session.tags ≡ unknown_tags → s ≡ after_e4 → IsAnswered session "showpgn"
      "# [Event \"?\"]\n# [Site \"?\"]\n# [Date \"????.??.??\"]\n# [Round \"?\"]\n# [White \"?\"]\n# [Black \"?\"]\n# [Result \"*\"]\n# [Termination \"unterminated\"]\n# \n# 1. e4 *\n# \n"
  unfolding command_of named_command is_ignored
  pgn_lines tags e =
      by_row session "showpgn" _ ShowPgn (says s (pgn (codes "# ") session.tags s)) refl refl
      (ap (λ (t : Tags). pgn (codes "# ") t s) tags ∙ ap (λ (x : State). pgn (codes "# ") unknown_tags x) e ∙ pgn_shown)
      refl refl

  claim_after_end : is_over s ≡ true → IsAnswered session "claim" "Error (command not legal now): claim\n"
  unfolding command_of named_command is_ignored
  claim_after_end e =
      by_row session "claim" "Error (command not legal now): claim\n" Claim
      (answers s (codes "Error (command not legal now): ") (codes "claim")) refl (over_claim s e) refl refl refl

  no_claim : is_over s ≡ false → draw_claim (claims s.start s.moves) ≡ None
      → IsAnswered session "claim" "Error (no claim): claim\n"
  unfolding command_of named_command is_ignored
  no_claim e none =
      by_row session "claim" "Error (no claim): claim\n" Claim
      (answers s (codes "Error (no claim): ") (codes "claim")) refl (on_claim s None e none) refl refl refl

  threefold : is_over s ≡ false → draw_claim (claims s.start s.moves) ≡ Some Threefold
      → Declares session "claim" "1/2-1/2 {Threefold repetition}\n" Draw "Threefold repetition"
  unfolding command_of named_command is_ignored result_text
  threefold e is =
      let first = responds session "claim" Claim refl in
      let claim = on_claim s (Some Threefold) e is in record {
        text = ap (λ (r : Response SessionSeen). r.text) first ∙ ap (λ (r : Response State). r.text) claim;
        state = ap (λ (r : Response SessionSeen). r.state) first
            ∙ ap (λ (r : Response State). with_game session r.state) claim;
      }

  fifty_moves : is_over s ≡ false → draw_claim (claims s.start s.moves) ≡ Some FiftyMoves
      → Declares session "claim" "1/2-1/2 {50-move rule}\n" Draw "50-move rule"
  unfolding command_of named_command is_ignored result_text
  fifty_moves e is =
      let first = responds session "claim" Claim refl in
      let claim = on_claim s (Some FiftyMoves) e is in record {
        text = ap (λ (r : Response SessionSeen). r.text) first ∙ ap (λ (r : Response State). r.text) claim;
        state = ap (λ (r : Response SessionSeen). r.state) first
            ∙ ap (λ (r : Response State). with_game session r.state) claim;
      }

  taken_result : (v : Option Verdict) → verdict_now s ≡ v → contradicts_verdict v WhiteWins ≡ false
      → Declares session "result 1-0 {Black resigns}" "" WhiteWins "Black resigns"
  unfolding command_of named_command is_ignored
  taken_result v e same =
      let first = responds session "result 1-0 {Black resigns}" Declare refl in
      let taken = result_taken s (codes "result 1-0 {Black resigns}") v e same in record {
        text = ap (λ (r : Response SessionSeen). r.text) first ∙ ap (λ (r : Response State). r.text) taken;
        state = ap (λ (r : Response SessionSeen). r.state) first
            ∙ ap (λ (r : Response State). with_game session r.state) taken;
      }

  braces : verdict_now s ≡ None
      → Declares session "result 1-0 {Black {resigns}}" "" WhiteWins "Black ?resigns?"
  unfolding command_of named_command is_ignored
  braces e =
      let first = responds session "result 1-0 {Black {resigns}}" Declare refl in
      let taken = braces_taken s (codes "result 1-0 {Black {resigns}}") e in record {
        text = ap (λ (r : Response SessionSeen). r.text) first ∙ ap (λ (r : Response State). r.text) taken;
        state = ap (λ (r : Response SessionSeen). r.state) first
            ∙ ap (λ (r : Response State). with_game session r.state) taken;
      }

  other_result : (v : Option Verdict) → verdict_now s ≡ v → contradicts_verdict v WhiteWins ≡ true
      → IsAnswered session "result 1-0 {Black resigns}"
      "Error (the board says otherwise): result 1-0 {Black resigns}\n"
  unfolding command_of named_command is_ignored
  other_result v e other =
      by_row session "result 1-0 {Black resigns}"
      "Error (the board says otherwise): result 1-0 {Black resigns}\n" Declare
      (answers s (codes "Error (the board says otherwise): ") (codes "result 1-0 {Black resigns}")) refl
      (result_refused s (codes "result 1-0 {Black resigns}") v e other) refl refl refl

  no_fen : s.start.variant ≡ Normal → IsAnswered session "setboard e4" "tellusererror Illegal position (fields)\n"
  unfolding command_of named_command is_ignored
  no_fen e =
      by_row session "setboard e4" "tellusererror Illegal position (fields)\n" SetBoard
      (setboard_row s (Err faults.Fields)) refl
      (fen_row s (argument_of (codes "setboard e4")) faults.Fields e no_fields) refl refl refl

  no_king : s.start.variant ≡ Normal
      → IsAnswered session "setboard 8/8/8/8/8/8/8/4K3 w - - 0 1" "tellusererror Illegal position (kings)\n"
  unfolding command_of named_command is_ignored
  no_king e =
      by_row session "setboard 8/8/8/8/8/8/8/4K3 w - - 0 1" "tellusererror Illegal position (kings)\n" SetBoard
      (setboard_row s (Err faults.Kings)) refl
      (fen_row s (argument_of (codes "setboard 8/8/8/8/8/8/8/4K3 w - - 0 1")) faults.Kings e one_king) refl refl refl

  ended : s.start.variant ≡ Normal
      → (response_to session "setboard 7k/5Q2/6K1/8/8/8/8/8 b - - 0 1").text ≡ codes "1/2-1/2 {Stalemate}\n"
  unfolding command_of named_command is_ignored
  ended e =
      ap (λ (r : Response SessionSeen). r.text)
      (responds session "setboard 7k/5Q2/6K1/8/8/8/8/8 b - - 0 1" SetBoard refl)
      ∙ ap (λ (v : Variant). (setboard_row s (fen_reading_as v
      (argument_of (codes "setboard 7k/5Q2/6K1/8/8/8/8/8 b - - 0 1")))).text) e
      ∙ stalemate_set s

pub game_lines_are_answered : GameLinesAreAnswered
game_lines_are_answered session = record {
  move_after_end = move_after_end session;
  claim_after_end = claim_after_end session;
  too_long = too_long session;
  quiet_move = quiet_move session;
  mating_move = mating_move session;
  several_moves = several_moves session;
  no_move = no_move session;
  undo = undo session;
  remove_one = remove_one session;
  remove = remove session;
  remove_two = remove_two session;
  normal_again = normal session;
  still_normal = still_normal session;
  shown_fen = fen_line session;
  shown_moves = moves_line session;
  shown_state = state_line session;
  shown_result = result_line session;
  shown_pgn = pgn_lines session;
  no_claim = no_claim session;
  threefold = threefold session;
  fifty_moves = fifty_moves session;
  new_result = λ e. taken_result session None e refl;
  same_result = λ e. taken_result session (Some WhiteMates) e refl;
  other_result = λ e. other_result session (Some BlackMates) e refl;
  drawn_by_the_board = λ e. other_result session (Some Stalemate) e refl;
  braces = braces session;
  no_fen = no_fen session;
  no_king = no_king session;
  ended = ended session;
}

pub claims_are_shown : ClaimsAreShown
claims_are_shown = record { neither = refl; threefold = refl; fifty_moves = refl; both = refl }

pub results_are_read : ResultsAreRead
unfolding argument_of read_result result_comment
results_are_read = record { white_wins = refl; black_wins = refl; drawn = refl; unfinished = refl; long = refl }

pub faults_are_named : FaultsAreNamed
faults_are_named = record {
  fields = refl;
  placement = refl;
  side = refl;
  castling = refl;
  en_passant = refl;
  counters = refl;
  kings = refl;
  pawns = refl;
  men = refl;
  check = refl;
}
