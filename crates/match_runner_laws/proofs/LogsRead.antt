-- What the lines of a log show of its match: its events but for openings of turns (events_read), the bytes that each
-- engine is sent (given_read) and the result (result_read). So two matches with the same log have the same events,
-- moves, reason and items (logs_give_the_game), since the events are played again (Replays).
use Rattle.std.proofs.Common.{◌≡◌, ◌⊎◌, ◌∙◌, ℕ, Bool, true, false, List, [], ◌∷◌, ◌++◌, map, refl, sym, ap, append_assoc, append-nil, inl, inr, Option, Some, None, arith, ◌==◌, codes, flat_map, if◌then◌else◌, not}
use Rattle.std.proofs.{lemmas.Bool.and_parts, lemmas.List.map-append, lemmas.List.Concat.flat_map-append, lemmas.Bool.Decides.nat_tests}
use Rattle.std.specs.List.{list_all, onto_first}
use Rattle.byte_devices.specs.Bytes.{byte, new_line}
use Rattle.chess_base.specs.{Options.list_if, declared.man.Colour.Colour, Men.same_colour}
use Rattle.chess_match.specs.Acts.{Act, Sends, SendFails, Happens, IsMatch}
use Rattle.chess_match.specs.{Effects.Match, Effects.Over, Effects.beginning, Lines.SentLine, Lines.bytes_of, Lines.text_of, Notes.Note, Notes.Happened, Notes.Gives, Reasons.is_write_fault_of, Reasons.reported_reason, laws.Laws.events_in, laws.Laws.notes_given, laws.Laws.lines_given, Rules.Rules, declared.reason.MatchFault.MatchFault, declared.reason.Reason.Reason, declared.reason.Reason.TheVariants.Decided, declared.reason.Reason.TheVariants.Faulted}
use Rattle.chess_match.specs.Events.{Event, Line, Opened, Silent, FailsToWrite}
use Rattle.chess_game.specs.{Ends.verdict, declared.verdicts.Verdict.Verdict}
use Rattle.chess_match.proofs.{shared.Verdicts.verdicts_end_matches, shared.Lines.bytes_of-append}
use Rattle.match_runner.specs.Log.{lines_in, moment_after}
use Rattle.match_runner_laws.specs.Entries.{Entry, entries_from, note_entries}
use Rattle.match_runner_laws.specs.ReadBack.{LogsGiveTheGame, LogsShow, entry_event, entry_given, events_shown, result_line, text_of_result}
use Rattle.match_runner_laws.proofs.{EntriesRead.log_is, EntriesRead.logs_have_one_reading, Replays.EndsAs, Replays.match_goes, Replays.replayed, ResultLines.reason_of, ResultLines.reason_read, ResultLines.result_plain}
use Rattle.match_runner_laws.proofs.PlayedAgain.{again, ends_by_flag, last_lines, shown_reason}

-- ---- events

-- the log's line for a line that an engine is sent
abbrev sent_entry : ℕ → Colour → List ℕ → Entry
sent_entry moment side text = record { moment = moment; mark = byte ">"; side = side; text = text }

-- such lines show no event
no_event : (moment : ℕ) (side : Colour) (texts : List (List ℕ))
    → flat_map entry_event (map (sent_entry moment side) texts) ≡ []
no_event moment side [] = refl
no_event moment side (t ∷ ts) = no_event moment side ts

-- one event more in front of equal events
event_more : (event : Event) (shown rest : List Event) → shown ≡ rest → event ∷ shown ≡ event ∷ rest
event_more event shown rest e = ap (λ (l : List Event). event ∷ l) e

-- by induction over the notes: their lines show the events of the notes, but for openings
events_read : (moment : ℕ) (notes : List Note)
    → flat_map entry_event (entries_from moment notes) ≡ events_shown (events_in notes)
events_read moment [] = refl
events_read moment (Happened (Line c (Some text) now) ∷ notes) =
    event_more (Line c (Some text) now) _ _ (events_read now notes)
events_read moment (Happened (Line c None now) ∷ notes) = event_more (Line c None now) _ _ (events_read now notes)
events_read moment (Happened (Opened c now) ∷ notes) = events_read now notes
events_read moment (Happened (Silent c now) ∷ notes) = event_more (Silent c now) _ _ (events_read now notes)
events_read moment (Happened event ∷ notes) = event_more event _ _ (events_read moment notes)
events_read moment (Gives c bytes ∷ notes) =
    flat_map-append entry_event (map (sent_entry moment c) (lines_in bytes)) (entries_from moment notes)
    ∙ ap (λ (l : List Event). l ++ flat_map entry_event (entries_from moment notes))
    (no_event moment c (lines_in bytes))
    ∙ events_read moment notes

-- ---- the lines of a block

-- these lines, one after another
abbrev joined : List (List ℕ) → List ℕ
joined ls = flat_map (λ l. l ++ new_line ∷ []) ls

is_new_line : (b : ℕ) → (b == new_line) ≡ true → new_line ≡ b
is_new_line b h1 = grind (arith, nat_tests)

-- the lines of a text that ends with `\n`, and then those of what follows
ended_text : (text rest : List ℕ) → (p : List ℕ) × (ps : List (List ℕ))
    × (lines_in (text ++ new_line ∷ rest) ≡ p ∷ ps ++ lines_in rest)
    × (joined (p ∷ ps) ≡ text ++ new_line ∷ [])
ended_text [] rest = ([], [], refl, refl)
ended_text (b ∷ bs) rest = let (p, ps, e, j) = ended_text bs rest in at (b == new_line) refl p ps e j
  where
    at : (x : Bool) → (b == new_line) ≡ x → (p : List ℕ) (ps : List (List ℕ))
        → lines_in (bs ++ new_line ∷ rest) ≡ p ∷ ps ++ lines_in rest → joined (p ∷ ps) ≡ bs ++ new_line ∷ []
        → (q : List ℕ) × (qs : List (List ℕ))
        × ((if x then [] ∷ lines_in (bs ++ new_line ∷ rest) else onto_first b (lines_in (bs ++ new_line ∷ rest)))
        ≡ q ∷ qs ++ lines_in rest)
        × (joined (q ∷ qs) ≡ b ∷ (bs ++ new_line ∷ []))
    at true is p ps e j = (
      [],
      p ∷ ps,
      ap (λ (l : List (List ℕ)). [] ∷ l) e,
      ap (λ (l : List ℕ). new_line ∷ l) j ∙ ap (λ (n : ℕ). n ∷ (bs ++ new_line ∷ [])) (is_new_line b is),
    )
    at false is p ps e j =
        (b ∷ p, ps, ap (λ (l : List (List ℕ)). onto_first b l) e, ap (λ (l : List ℕ). b ∷ l) j)

-- the lines of a block are whole
block_joined : (ls : List SentLine) → joined (lines_in (bytes_of ls)) ≡ bytes_of ls
unfolding bytes_of
block_joined [] = refl
block_joined (l ∷ ls) =
    let (p, ps, e, j) = ended_text (text_of l) (bytes_of ls) in
    ap (λ (t : List (List ℕ)). joined t) e
    ∙ flat_map-append (λ (t : List ℕ). t ++ new_line ∷ []) (p ∷ ps) (lines_in (bytes_of ls))
    ∙ ap (λ (t : List ℕ). t ++ joined (lines_in (bytes_of ls))) j
    ∙ append_assoc (text_of l) (new_line ∷ []) (joined (lines_in (bytes_of ls)))
    ∙ ap (λ (t : List ℕ). text_of l ++ new_line ∷ t) (block_joined ls)

-- the lines of a block come after one another
block_lines : (ls more : List SentLine)
    → (before : List (List ℕ)) × (lines_in (bytes_of (ls ++ more)) ≡ before ++ lines_in (bytes_of more))
unfolding bytes_of
block_lines [] more = ([], refl)
block_lines (l ∷ ls) more =
    let (p, ps, e, j) = ended_text (text_of l) (bytes_of (ls ++ more)) in
    let (before, f) = block_lines ls more in (
      p ∷ ps ++ before,
      e ∙ ap (λ (t : List (List ℕ)). p ∷ ps ++ t) f
          ∙ ap (λ (t : List (List ℕ)). p ∷ t) (sym (append_assoc ps before (lines_in (bytes_of more)))),
    )

-- a text without `\n` that is followed by one is one line
plain_line : (text rest : List ℕ) → list_all (λ b. not (b == new_line)) text ≡ true
    → lines_in (text ++ new_line ∷ rest) ≡ text ∷ lines_in rest
plain_line [] rest h = refl
plain_line (b ∷ bs) rest h =
    let p = and_parts (not (b == new_line)) (list_all (λ b. not (b == new_line)) bs) h in
    at (b == new_line) p.0 ∙ ap (λ (l : List (List ℕ)). onto_first b l) (plain_line bs rest p.1)
  where
    at : (x : Bool) → not x ≡ true
        → (if x then [] ∷ lines_in (bs ++ new_line ∷ rest) else onto_first b (lines_in (bs ++ new_line ∷ rest)))
        ≡ onto_first b (lines_in (bs ++ new_line ∷ rest))
    at true h = absurd cc
    at false h = refl

-- ---- bytes that are sent

-- of lines that side c is sent, S is sent all, each with its `\n`, if it is c, and otherwise none
given_entries : (S c : Colour) (moment : ℕ) (texts : List (List ℕ))
    → flat_map (entry_given S) (map (sent_entry moment c) texts) ≡ list_if (same_colour c S) (joined texts)
given_entries S c moment [] = grind arith
given_entries S c moment (t ∷ ts) =
    ap (λ (l : List ℕ). list_if (same_colour c S) (t ++ new_line ∷ []) ++ l) (given_entries S c moment ts)
    ∙ at (same_colour c S)
  where
    at : (b : Bool) → list_if b (t ++ new_line ∷ []) ++ list_if b (joined ts) ≡ list_if b (joined (t ∷ ts))
    at true = refl
    at false = refl

-- all bytes that S is sent by these lines of a log
abbrev given_by : Colour → List Entry → List ℕ
given_by S entries = flat_map (entry_given S) entries

-- a block adds its bytes to what its side is sent, and nothing to the other
given_block : (S c : Colour) (moment : ℕ) (lines more : List SentLine) (entries : List Entry)
    → given_by S entries ≡ bytes_of more
    → given_by S (note_entries moment (Gives c (bytes_of lines)) ++ entries)
    ≡ bytes_of (list_if (same_colour c S) lines ++ more)
given_block S c moment lines more entries e =
    flat_map-append (entry_given S) (note_entries moment (Gives c (bytes_of lines))) entries
    ∙ ap (λ (l : List ℕ). l ++ given_by S entries) (given_entries S c moment (lines_in (bytes_of lines)))
    ∙ ap (λ (l : List ℕ). list_if (same_colour c S) l ++ given_by S entries) (block_joined lines)
    ∙ ap (λ (l : List ℕ). list_if (same_colour c S) (bytes_of lines) ++ l) e
    ∙ at (same_colour c S)
  where
    at : (b : Bool) → list_if b (bytes_of lines) ++ bytes_of more ≡ bytes_of (list_if b lines ++ more)
    at true = sym (bytes_of-append lines more)
    at false = refl

-- a failed write is noted, or not
given_failure : (S c : Colour) (moment : ℕ) (notes : List Note) (noted : Bool)
    → given_by S (entries_from moment (list_if noted (Happened (FailsToWrite c) ∷ []) ++ notes))
    ≡ given_by S (entries_from moment notes)
given_failure S c moment notes true = refl
given_failure S c moment notes false = refl

-- by induction over the acts: a log's lines show all bytes that S is sent
given_read : (S : Colour) (moment : ℕ) (reason : Reason) (H : List Act)
    → given_by S (entries_from moment (notes_given reason H)) ≡ bytes_of (lines_given S H)
unfolding bytes_of
given_read S moment reason [] = refl
given_read S moment reason (Sends b ∷ H) =
    given_block S b.to moment b.lines (lines_given S H) _ (given_read S moment reason H)
given_read S moment reason (SendFails b ∷ H) =
    given_block S b.to moment b.lines (lines_given S H) _
    (given_failure S b.to moment (notes_given reason H) (is_write_fault_of reason b.to)
    ∙ given_read S moment reason H)
given_read S moment reason (Happens (Line c (Some t) now) ∷ H) = given_read S now reason H
given_read S moment reason (Happens (Line c None now) ∷ H) = given_read S now reason H
given_read S moment reason (Happens (Opened c now) ∷ H) = given_read S now reason H
given_read S moment reason (Happens (Silent c now) ∷ H) = given_read S now reason H
given_read S moment reason (Happens _ ∷ H) = given_read S moment reason H

-- ---- the result

-- the result is the text of the last line but one
result_is : (before : List Entry) (e f : Entry) → result_line (before ++ e ∷ f ∷ []) ≡ e.text
result_is [] e f = refl
result_is (a ∷ []) e f = refl
result_is (a ∷ b ∷ []) e f = refl
result_is (a ∷ b ∷ c ∷ before) e f = result_is (b ∷ c ∷ before) e f

-- the lines of the last note come last
last_note : (moment : ℕ) (before : List Note) (n : Note)
    → (lines : List Entry) × (now : ℕ)
    × (entries_from moment (before ++ n ∷ []) ≡ lines ++ note_entries now n)
last_note moment [] n = ([], moment, append-nil (note_entries moment n))
last_note moment (x ∷ before) n =
    let (lines, now, e) = last_note (moment_after moment x) before n in (
      note_entries moment x ++ lines,
      now,
      ap (λ (l : List Entry). note_entries moment x ++ l) e
          ∙ sym (append_assoc (note_entries moment x) lines (note_entries now n)),
    )

-- the end lines of a match are `result ..` and `quit`
last_two : (reason : Reason) → lines_in (bytes_of (last_lines reason)) ≡ text_of_result reason ∷ codes "quit" ∷ []
unfolding bytes_of
last_two reason = plain_line (text_of_result reason) _ (result_plain reason)

-- the lines of the last block
block_result : (S : Colour) (now : ℕ) (lines : List SentLine) (reason : Reason)
    → (before : List Entry) × (e : Entry) × (f : Entry) × (e.text ≡ text_of_result reason)
    × (note_entries now (Gives S (bytes_of (lines ++ last_lines reason))) ≡ before ++ e ∷ f ∷ [])
block_result S now lines reason =
    let (before, is) = block_lines lines (last_lines reason) in
    let mark : List ℕ → Entry = sent_entry now S in (
      map mark before,
      mark (text_of_result reason),
      mark (codes "quit"),
      refl,
      ap (λ (ts : List (List ℕ)). map mark ts)
          (is ∙ ap (λ (ts : List (List ℕ)). before ++ ts) (last_two reason))
          ∙ map-append mark before (text_of_result reason ∷ codes "quit" ∷ []),
    )

-- the notes of a match end with the end lines (EndsAs), so its result is their `result ..`
result_read : (notes : List Note) (reason : Reason) → EndsAs reason notes
    → result_line (entries_from 0 notes) ≡ text_of_result reason
result_read notes reason (before, S, lines, is) =
    let n : Note = Gives S (bytes_of (lines ++ last_lines reason)) in
    let (entries, now, e) = last_note 0 before n in
    let (more, a, b, text, f) = block_result S now lines reason in
    ap (λ (l : List Note). result_line (entries_from 0 l)) is
    ∙ ap (λ (l : List Entry). result_line l)
    (e ∙ ap (λ (l : List Entry). entries ++ l) f ∙ sym (append_assoc entries more (a ∷ b ∷ [])))
    ∙ result_is (entries ++ more) a b ∙ text

-- ---- a whole log

-- what `LogsShow` says of the log of a match: its lines, events, bytes and result
pub logs_show : LogsShow
logs_show r first reason H final h over = (
  log_is first 0 (notes_given reason H),
  events_read 0 (notes_given reason H),
  λ S. given_read S 0 reason H,
  result_read (notes_given reason H) (shown_reason r final reason) (match_goes r reason H final h over).last,
)

-- what is reported of a match shows whether a flag fell; then it is the reason itself
module _ (r : Rules) (reason : Reason) (H : List Act) (final : Match) (h : IsMatch r H final)
    (over : final.phase ≡ Over reason) where
  -- a match whose position has a verdict didn't end because a flag fell
  decided_in_time : (v : Verdict) → verdict r.start final.played ≡ Some v → ends_by_flag reason ≡ false
  decided_in_time v e = at (verdicts_end_matches r v H final h e)
    where
      at : (final.phase ≡ Over (Decided v))
          ⊎ ((final.played ≡ []) × (c : Colour) × (fault : MatchFault) × (final.phase ≡ Over (Faulted c fault)))
          → ends_by_flag reason ≡ false
      at (inl p) = let same : Over reason ≡ Over (Decided v) = sym over ∙ p in
          let is : reason ≡ Decided v = cc in ap ends_by_flag is
      at (inr (none, c, fault, p)) = let same : Over reason ≡ Over (Faulted c fault) = sym over ∙ p in
          let is : reason ≡ Faulted c fault = cc in ap ends_by_flag is

  -- whether a flag fell is the same of the reported reason
  late_shown : ends_by_flag (shown_reason r final reason) ≡ ends_by_flag reason
  late_shown = at (verdict r.start final.played) refl
    where
      at : (v : Option Verdict) → verdict r.start final.played ≡ v
          → ends_by_flag (reported_reason v reason) ≡ ends_by_flag reason
      at None e = refl
      at (Some v) e = sym (decided_in_time v e)

  -- if a flag fell, the reported reason is the reason itself
  flag_shown : ends_by_flag reason ≡ true → shown_reason r final reason ≡ reason
  flag_shown late = at (verdict r.start final.played) refl
    where
      at : (v : Option Verdict) → verdict r.start final.played ≡ v → reported_reason v reason ≡ reason
      at None e = refl
      at (Some v) e = let no : true ≡ false = sym late ∙ decided_in_time v e in absurd cc

-- two matches ended for the same reason, if the same is reported of both, and without a flag also their last phase is
-- the same
reasons_are : (r : Rules) (reason reason' : Reason) (H K : List Act) (final final' : Match) → IsMatch r H final
    → IsMatch r K final' → final.phase ≡ Over reason → final'.phase ≡ Over reason'
    → shown_reason r final reason ≡ shown_reason r final' reason' → ends_by_flag reason ≡ ends_by_flag reason'
    → (ends_by_flag reason ≡ false → final.phase ≡ final'.phase) → (late : Bool) → ends_by_flag reason ≡ late
    → reason ≡ reason'
reasons_are r reason reason' H K final final' h k over over' shown lates phases true late =
    sym (flag_shown r reason H final h over late) ∙ shown ∙ flag_shown r reason' K final' k over' (sym lates ∙ late)
reasons_are r reason reason' H K final final' h k over over' shown lates phases false plain =
    let same : Over reason ≡ Over reason' = sym over ∙ phases plain ∙ over' in cc

-- from equal lines: equal events, and equal results, so equal reported reasons; playing the events again gives the rest
pub logs_give_the_game : LogsGiveTheGame
logs_give_the_game r first reason reason' H K final final' h k over over' plain plain' same =
    let xs : List Entry = entries_from 0 (notes_given reason H) in
    let ys : List Entry = entries_from 0 (notes_given reason' K) in
    let a = logs_show r first reason H final h over in
    let b = logs_show r first reason' K final' k over' in
    let entries : xs ≡ ys = logs_have_one_reading first xs ys plain plain' (sym a.0 ∙ same ∙ b.0) in
    let shown : shown_reason r final reason ≡ shown_reason r final' reason' =
    sym (reason_read (shown_reason r final reason))
    ∙ ap (λ (t : List ℕ). reason_of t) (sym a.3 ∙ ap (λ (l : List Entry). result_line l) entries ∙ b.3)
    ∙ reason_read (shown_reason r final' reason') in
    let lates : ends_by_flag reason ≡ ends_by_flag reason' = sym (late_shown r reason H final h over)
    ∙ ap ends_by_flag shown ∙ late_shown r reason' K final' k over' in
    let events : events_shown (events_in (notes_given reason H)) ≡ events_shown (events_in (notes_given reason' K)) =
    sym a.1 ∙ ap (λ (l : List Entry). flat_map entry_event l) entries ∙ b.1 in
    let games = ap (λ (late : Bool).
    replayed r late (again beginning.after) (events_shown (events_in (notes_given reason H)))) lates
    ∙ ap (λ (es : List Event). replayed r (ends_by_flag reason') (again beginning.after) es) events in
    let c = (match_goes r reason H final h over).same in
    let d = (match_goes r reason' K final' k over').same in
    record {
      reasons = reasons_are r reason reason' H K final final' h k over over' shown lates
          (λ plain. c.2 plain ∙ ap (λ (m : Match). m.phase) games ∙ sym (d.2 (sym lates ∙ plain)))
          (ends_by_flag reason) refl;
      moves = c.0 ∙ ap (λ (m : Match). m.played) games ∙ sym d.0;
      items = λ S. c.1 S ∙ ap (λ (m : Match). (m.seat S).items) games ∙ sym (d.1 S);
      sent = λ S. sym (a.2 S) ∙ ap (λ (l : List Entry). flat_map (entry_given S) l) entries ∙ b.2 S;
      events = events;
    }
