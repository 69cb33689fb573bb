-- Two facts of each row of the table of commands (`row`), shown command by command (`row_obeys`): the session ends just
-- if the command is `quit` (line_ends), and an answer that is a refusal changes nothing (refused_keeps, refused).
-- Besides, no line changes a session's tags and limit (tags_and_limit_stay).
use Rattle.std.proofs.Common.{◌≡◌, ℕ, ◌==◌, ◌&&◌, ◌||◌, inl, inr, Bool, true, false, List, [], ◌∷◌, ◌++◌, get_or, codes, refl, sym, ap, ◌∙◌, if◌then◌else◌, length, Option, None, Some, bytes_eq, nat_le, nat_lt, not, Result, Ok, Err}
use Rattle.std.specs.Option.{option_map_or}
use Rattle.chess_base.specs.{declared.fen_fault.FenFault.FenFault, declared.man.Variant.TheVariants.Fischerandom, declared.setup.Setup.Setup, Initial.initial_setup, Initial.initial_setup_of}
use Rattle.chess_fen.specs.Reading.{fen_reading_as}
use Rattle.byte_devices.specs.Bytes.{new_line}
use Rattle.text_lines.specs.{Lines.LineSeen, Words.argument_of}
use Rattle.chess_cecp.specs.{Held.SessionSeen, Commands.command_of, Declaring.read_result, declared.command.Command.Command, Serving.Response, Serving.says, Serving.becomes, ties.Replies.is_quit, ties.Replies.is_quit_command}
use Rattle.pgn_writer.specs.declared.tags.Tags.{Tags}
use Rattle.chess_text.specs.{Moves.reading, declared.reading.Reading.Reading}
use Rattle.chess_text.specs.declared.reading.Reading.TheVariants as reads
use Rattle.chess_game.specs.Ends.{verdict_result, result_text, claims, draw_claim, claim_comment}
use Rattle.chess_game.specs.Game.{State, from_start, played, taken_back, current, verdict_now, is_over, contradicts_verdict}
use Rattle.chess_game.specs.{declared.verdicts.Verdict.Verdict, declared.results.Declared.Declared, declared.results.Outcome.Outcome, declared.results.Outcome.TheVariants.WhiteWins, declared.results.Outcome.TheVariants.Draw, declared.verdicts.DrawClaim.DrawClaim}
use Rattle.chess_cecp.specs.declared.command.Command.TheVariants.{New, SetBoard, UserMove, BareMove, Undo, Remove, Declare, Claim, Protover, Variant}
use Rattle.chess_cecp.specs.Session.{row, answers, becomes_judged, take_back_row, result_row, declares, setboard_row, features_line, reading_row, move_row, IsRefusal, session_response}

-- whether a text begins with `E`, `I` or `t`, as the refusals do (`Error ..`, `Illegal move ..`, `tellusererror ..`)
abbrev begins_refusal : List ℕ → Bool
begins_refusal text = (get_or text 0 0 == 69) || (get_or text 0 0 == 73) || (get_or text 0 0 == 116)

refusal_begins : (text : List ℕ) → IsRefusal text → begins_refusal text ≡ true
refusal_begins text (inl (rest, is)) = ap begins_refusal (sym is)
refusal_begins text (inr (inl (rest, is))) = ap begins_refusal (sym is)
refusal_begins text (inr (inr (rest, is))) = ap begins_refusal (sym is)

-- a row of the game `s`: the session ends with it if `quits` says so, and if its text is a refusal, it changes nothing
pub record Obeys (s : State) (quits : Bool) (r : Response State) : Type 0 where
  pub ends : r.ends ≡ quits
  pub keeps : IsRefusal r.text → r.state ≡ s

-- a row that goes on, and whose text doesn't begin as a refusal: whatever it changes, it is as `Obeys` asks
accepted : (s : State) (r : Response State) → begins_refusal r.text ≡ false → r.ends ≡ false → Obeys s false r
accepted s r e on = record {
  ends = on;
  keeps = λ h. (let t : begins_refusal r.text ≡ true = refusal_begins r.text h in cc);
}

-- a row that answers any text and keeps the game
unchanged : (s : State) (text : List ℕ) → Obeys s false (says s text)
unchanged s text = record { ends = refl; keeps = λ h. refl }

-- a row that changes the game and answers nothing
moved : (s s' : State) → Obeys s false (becomes s')
moved s s' = accepted s (becomes s') refl refl

-- both rows of a test are as `Obeys` asks, so the test's result is
by_test : (b : Bool) {s : State} {x y : Response State} → Obeys s false x → Obeys s false y
    → Obeys s false (if b then x else y)
by_test true h k = h
by_test false h k = k

-- the line of a result begins with `0`, `1` or `*`, as no refusal does
outcome_begins : (o : Outcome) (comment : List ℕ)
    → begins_refusal (result_text (record { outcome = o; comment = comment }) ++ new_line ∷ []) ≡ false
unfolding result_text
outcome_begins WhiteWins comment = refl
outcome_begins _ comment = refl

-- nor does the line of a verdict, or the empty answer without one
verdict_begins : (o : Option Verdict)
    → begins_refusal (option_map_or (λ v. result_text (verdict_result v) ++ new_line ∷ []) o []) ≡ false
verdict_begins None = refl
verdict_begins (Some v) = outcome_begins (verdict_result v).outcome (verdict_result v).comment

-- a row that changes the game and answers the board's verdict, if there is one
judged : (s s' : State) → Obeys s false (becomes_judged s')
judged s s' = accepted s (becomes_judged s') (verdict_begins (verdict_now s')) refl

-- the rows of the table, first those with definitions of their own
reading_obeys : (s : State) (text : List ℕ) (r : Reading) → Obeys s false (reading_row s text r)
reading_obeys s text (reads.Move m) = judged s (played s m)
reading_obeys s text _ = unchanged s _

move_obeys : (limit : ℕ) (s : State) (text : List ℕ) → Obeys s false (move_row limit s text)
move_obeys limit s text =
    by_test (is_over s) (unchanged s _)
    (by_test (nat_le limit (length s.moves)) (unchanged s _) (reading_obeys s text (reading (current s) text)))

setboard_obeys : (s : State) (r : Result Setup FenFault) → Obeys s false (setboard_row s r)
setboard_obeys s (Ok start) = judged s (from_start start)
setboard_obeys s (Err fault) = unchanged s _

take_back_obeys : (n : ℕ) (name : List ℕ) (s : State) → Obeys s false (take_back_row n name s)
take_back_obeys n name s = by_test (nat_le n (length s.moves)) (moved s (taken_back s n)) (unchanged s _)

result_obeys : (s : State) (text : List ℕ) (d : Option Declared) → Obeys s false (result_row s text d)
result_obeys s text None = unchanged s _
result_obeys s text (Some d) =
    by_test (contradicts_verdict (verdict_now s) d.outcome) (unchanged s _) (moved s (record s { declared = Some d }))

-- `claim` in a game that is not over: a draw is declared, or the claim refused
claim_obeys : (s : State) (claim : Option DrawClaim)
    → Obeys s false (option_map_or (λ c. declares s (record { outcome = Draw; comment = claim_comment c })) claim
    (answers s (codes "Error (no claim): ") (codes "claim")))
claim_obeys s (Some c) = accepted s (declares s (record { outcome = Draw; comment = claim_comment c }))
    (outcome_begins Draw (claim_comment c)) refl
claim_obeys s None = unchanged s _

-- each row of the table of commands
row_obeys : (tags : Tags) (limit : ℕ) (s : State) (text argument : List ℕ) (command : Command)
    → Obeys s (is_quit_command command) (row tags limit s text argument command)
row_obeys tags limit s text argument New = moved s (from_start initial_setup)
row_obeys tags limit s text argument SetBoard = setboard_obeys s (fen_reading_as s.start.variant argument)
row_obeys tags limit s text argument UserMove = move_obeys limit s argument
row_obeys tags limit s text argument BareMove = move_obeys limit s text
row_obeys tags limit s text argument Undo = take_back_obeys 1 (codes "undo") s
row_obeys tags limit s text argument Remove = take_back_obeys 2 (codes "remove") s
row_obeys tags limit s text argument Declare = result_obeys s text (read_result argument)
row_obeys tags limit s text argument Claim =
    by_test (is_over s) (unchanged s _) (claim_obeys s (draw_claim (claims s.start s.moves)))
row_obeys tags limit s text argument (Protover n) =
    by_test (nat_lt n 2) (unchanged s []) (unchanged s features_line)
row_obeys tags limit s text argument Variant =
    by_test (bytes_eq argument (codes "fischerandom")) (moved s (from_start (initial_setup_of Fischerandom)))
    (by_test (bytes_eq argument (codes "normal")) (moved s _) (unchanged s _))
row_obeys tags limit s text argument _ = record { ends = refl; keeps = λ h. refl }

-- what is done with a line: its row, or the refusal of a line that is too long
abbrev pub line_row : SessionSeen → LineSeen → Response State
line_row seen line =
    if line.too_long then answers seen.state (codes "Error (line too long): ") line.text
    else row seen.tags seen.limit seen.state line.text (argument_of line.text) (command_of line.text)

-- a line that is too long is refused, which keeps the game and is no `quit`
unless_long : (long quits : Bool) {s : State} (text : List ℕ) {r : Response State} → Obeys s quits r
    → Obeys s (not long && quits) (if long then says s text else r)
unless_long true quits {s} text h = unchanged s text
unless_long false quits text h = h

line_obeys : (seen : SessionSeen) (line : LineSeen) → Obeys seen.state (is_quit line) (line_row seen line)
unfolding is_quit
line_obeys seen line =
    unless_long line.too_long _ _
    (row_obeys seen.tags seen.limit seen.state line.text (argument_of line.text) (command_of line.text))

pub line_ends : (seen : SessionSeen) (line : LineSeen) → (session_response seen line).ends ≡ is_quit line
unfolding session_response
line_ends seen line = (line_obeys seen line).ends

-- a line whose answer is a refusal leaves the session as it was
pub refused_keeps : (seen : SessionSeen) (line : LineSeen) → IsRefusal (session_response seen line).text
    → (session_response seen line).state ≡ seen
unfolding session_response
refused_keeps seen line h =
    ap (λ v. record { tags = seen.tags; limit = seen.limit; state = v }) ((line_obeys seen line).keeps h)

-- refused_keeps, said of a session `left` that is the one after the line; and any line keeps tags and limit
pub refused : (seen left : SessionSeen) (line : LineSeen) → left ≡ (session_response seen line).state
    → IsRefusal (session_response seen line).text → left ≡ seen
refused seen left line is h = is ∙ refused_keeps seen line h

pub tags_and_limit_stay : (seen left : SessionSeen) (line : LineSeen) → left ≡ (session_response seen line).state
    → (left.tags ≡ seen.tags) × (left.limit ≡ seen.limit)
unfolding session_response
tags_and_limit_stay seen left line is = (ap (λ (s : SessionSeen). s.tags) is, ap (λ (s : SessionSeen). s.limit) is)
