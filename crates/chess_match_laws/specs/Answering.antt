-- An engine that answers, and says nothing else that counts, is never reported with a fault, and loses only by mate.
use Rattle.std.specs.Prelude.{◌≡◌, ◌<◌, ◌≤◌, ℕ, ◌+◌, ◌-◌, Bool, true, false, nat_lt, List, [], ◌∷◌, ◌++◌, length, Option, None, Some}
use Rattle.std.specs.List.{flat_map, list_any}
use Rattle.chess_base.specs.ByColour.{by_colour}
use Rattle.chess_base.specs.Men.{other}
use Rattle.chess_base.specs.declared.man.Colour.{Colour}
use Rattle.chess_base.specs.declared.man.Move.{Move}
use Rattle.cecp_engine.specs.EngineLines.{LineKind, Answers, Features, Moves, SaysElse}
use Rattle.cecp_engine.specs.Items.{ends_handshake, items_of}
use Rattle.chess_game.specs.Ends.{verdict}
use Rattle.chess_game.specs.Line.{position_after}
use Rattle.chess_game.specs.declared.verdicts.Verdict.{Verdict}
use Rattle.chess_game.specs.declared.verdicts.Verdict.TheVariants.{BlackMates, WhiteMates}
use Rattle.chess_match.specs.Acts.{Act, Happens, IsMatch}
use Rattle.chess_match.specs.Effects.{Match, BeforeMove, beginning, clock, missing}
use Rattle.chess_match.specs.Events.{Line, Silent}
use Rattle.chess_match.specs.Lines.{SentLine}
use Rattle.chess_match.specs.Played.{ReportedAs}
use Rattle.chess_match.specs.Reasons.{win_of}
use Rattle.chess_match.specs.Rules.{Rules}
use Rattle.chess_match.specs.declared.reason.MatchFault.{MatchFault}
use Rattle.chess_match.specs.declared.reason.Reason.{Reason}
use Rattle.chess_match.specs.declared.run.MatchEnd.{MatchEnd}
use Rattle.chess_match.specs.laws.Laws.{has_ended, has_failed_read, is_broken, line_kind, lines_given, lines_read, match_after}
use Rattle.chess_match_laws.specs.OfActs.{is_beyond}
use Rattle.chess_match_laws.specs.Rows.{ping_text}
use Rattle.chess_match_laws.specs.Streams.{items_said}
use Rattle.chess_text.specs.Moves.{reading}
use Rattle.chess_text.specs.declared.reading.Reading.TheVariants as reads

-- whether the last of these lines is a `ping`
abbrev pub ends_in_ping : List SentLine → Bool
ends_in_ping [] = false
ends_in_ping (line ∷ []) = nat_lt 0 (length (ping_text line))
ends_in_ping (line ∷ next ∷ lines) = ends_in_ping (next ∷ lines)

-- after the acts `before`, which led to the match `m`, the side `S` owes a line of this kind, or may send it, at this
-- moment (the last argument)
pub data IsDue (r : Rules) (S : Colour) (before : List Act) (m : Match) : LineKind → ℕ → Type 0 where
  -- before any `ping`, in its handshake: a `feature` line. If it has `done=1`, the engine lacks nothing for the match
  -- by all its items; otherwise it is one of its first 999 lines
  of_handshake : {text : List ℕ} {moment : ℕ} → flat_map ping_text (lines_given S before) ≡ []
      → (list_any ends_handshake (items_of text) ≡ true
      → missing r (items_said (lines_read S before) ++ items_of text) ≡ None)
      → (list_any ends_handshake (items_of text) ≡ false → length (lines_read S before) < 999)
      → IsDue r S before m (Features text) moment
  -- right after the n-th `ping`: `pong n`
  to_ping : {n moment : ℕ} → ends_in_ping (lines_given S before) ≡ true
      → n ≡ length (flat_map ping_text (lines_given S before)) → IsDue r S before m (Answers n) moment
  -- in its turn: `move M`, where M denotes one legal move, in time
  to_turn : {text : List ℕ} {moment opened : ℕ} {made : Move} → m.phase ≡ BeforeMove S opened
      → reading (position_after r.start m.played) text ≡ reads.Move made → moment - opened ≤ clock r m S
      → IsDue r S before m (Moves text) moment
  -- a line that means nothing, such as thinking: with it fewer than 1,000 were ignored in this setup or turn, or read
  -- in this handshake; before its move it also comes in time
  idle : {moment : ℕ} → m.count + 1 < 1000
      → ((opened : ℕ) → m.phase ≡ BeforeMove S opened → moment - opened ≤ clock r m S)
      → IsDue r S before m SaysElse moment

-- in these acts of a match the engine of the side `S` answers, and says nothing else that counts
pub record AnswersAll (r : Rules) (S : Colour) (H : List Act) : Type 0 where
  -- each of its lines was due when it came
  pub lines : (before after : List Act) (text : Option (List ℕ)) (moment : ℕ)
      → H ≡ before ++ Happens (Line S text moment) ∷ after
      → IsDue r S before (match_after r beginning.after before) (line_kind text) moment
  -- at each silence of it (no line had come yet) it was within its limit
  pub waits : (before after : List Act) (moment : ℕ) → H ≡ before ++ Happens (Silent S moment) ∷ after
      → let m = match_after r beginning.after before in is_beyond r m m.phase S moment ≡ false
  -- its output did not end, and no read or write failed
  pub goes_on : has_ended S H ≡ false
  pub is_read : has_failed_read S H ≡ false
  pub is_written : is_broken H S ≡ false

-- the verdict that this side mates
abbrev pub mates : Colour → Verdict
mates S = by_colour WhiteMates BlackMates S

-- in this report of a match, whose final state is `final`, the side `S` has no fault, and if it lost, it is mated
pub record IsBlameless (r : Rules) (S : Colour) (final : Match) (end : MatchEnd) : Type 0 where
  pub no_fault : (fault : MatchFault) → end.fault ≡ Some (S, fault) → ⊥
  pub mated : end.outcome ≡ win_of (other S) → verdict r.start final.played ≡ Some (mates (other S))

-- if the engine of the side `S` answers in a match (`AnswersAll`), `S` has no fault in the report, and loses only by
-- mate
abbrev pub AnsweringEnginesAreBlameless : Type 0
AnsweringEnginesAreBlameless = (r : Rules) (S : Colour) (H : List Act) (final : Match) (reason : Reason) (end : MatchEnd)
    → IsMatch r H final → ReportedAs r H final reason end → AnswersAll r S H → IsBlameless r S final end
