-- What a played match did: at its devices, in its game and its report. `H` are its acts, in order.
use Rattle.std.specs.Prelude.{◌≡◌, ◌||◌, ℕ, true, nat_lt, List, [], ◌∷◌, ◌++◌, length, codes, Option, None, Some}
use Rattle.std.specs.List.{count_by, flat_map, last_or, list_any}
use Rattle.chess_base.specs.declared.man.Colour.{Colour}
use Rattle.byte_devices.specs.Transfers.{FromInput, ToOutput, Devices, RanWithWaits, all_flushed, BreaksOffIn}
use Rattle.chess_game.specs.Game as game
use Rattle.chess_game.specs.Results.{cut_tag}
use Rattle.cecp_engine.specs.Items.{last_said}
use Rattle.chess_match.specs.Acts.{Act, IsMatch}
use Rattle.chess_match.specs.ByDevice.{line_read, is_end_of, is_failed_read_of, is_silence_of, look, moment_shown, lines_to, broken_block, notes_of}
use Rattle.chess_match.specs.Effects.{Match, Over, beginning}
use Rattle.chess_match.specs.Notes.{Note}
use Rattle.chess_match.specs.Reasons.{reported, reported_fault, reported_reason, declared_at}
use Rattle.chess_base.specs.ByColour.{by_colour, of_colour}
use Rattle.chess_match.specs.Rules.{Rules, rules_of}
use Rattle.chess_match.specs.Run.{engine_lines, ClockReadings}
use Rattle.chess_match.specs.Lines.{SentLine, bytes_of}
use Rattle.chess_match.specs.Table.{Passing, Passes, watched}
use Rattle.chess_match.specs.declared.reason.Reason.{Reason}
use Rattle.chess_match.specs.declared.run.MatchEnd.{MatchEnd}
use Rattle.chess_match.specs.declared.run.Setup.{Setup}
use Rattle.chess_game.specs.Ends.{verdict}

-- what contracts see, at one time, of a match's engines and clock (not of the witness), and of its game
pub record World : Type 0 where
  -- each engine's devices: `input` is its output, which is read, and `output` its input
  pub engines : Colour → Devices
  -- the moment that each later reading of the clock will give, from reading 0 on; `None`: unknown
  pub coming : ℕ → Option ℕ
  -- the game in which the match is played, and whose state it replaces
  pub game : game.Seen

-- `i` is what came from the engine of the side `S` in the acts `H`, perhaps with more lines than were read
pub record SaidBy (S : Colour) (H : List Act) (i : FromInput) : Type 0 where
  -- the lines read come first in these bytes; `rest` are those that came but were not read
  pub lines : (rest : List (Option (List ℕ))) × (engine_lines i.text ≡ flat_map (line_read S) H ++ rest)
  -- whether its end was read, and whether a read failed, is as in the acts
  pub ended : i.ended ≡ list_any (is_end_of S) H
  pub failed : i.failed ≡ list_any (is_failed_read_of S) H
  -- as many waits found nothing as the acts have silences of `S`
  pub silences : i.silences ≡ count_by (is_silence_of S) H
  -- after an end or a failure, all lines were read
  pub all : (i.ended || i.failed) ≡ true → engine_lines i.text ≡ flat_map (line_read S) H
  -- so too if the last look for a line of `S` found none
  pub all_if_silent : last_or None (flat_map (look S) H) ≡ Some true → engine_lines i.text ≡ flat_map (line_read S) H

-- `o` is what went to an engine's input, if it was sent the lines `sent`, and then the block of the second list, if
-- any, failed
abbrev pub WasSent : List SentLine → List (List SentLine) → ToOutput → Type 0
-- no block failed: all lines were written and flushed (without lines, no flush)
WasSent sent [] o = o ≡ all_flushed (nat_lt 0 (length sent)) (bytes_of sent)
-- a block failed, after these lines
WasSent sent (block ∷ []) o = BreaksOffIn (all_flushed (nat_lt 0 (length sent)) (bytes_of sent)) (bytes_of block) o
WasSent sent _ o = ⊥

-- the acts `H` are a match by the rules `r`, which is `final` at its end, and from the world `w` to `w'` each device
-- did what these acts say. Nothing is said of the order of acts at different devices, nor of the game
pub record Passed (r : Rules) (H : List Act) (final : Match) (w w' : World) : Type 0 where
  pub is_match : IsMatch r H final
  -- what came from each side's engine (`i`) and what went to it (`o`) agree with the acts
  pub passed : (S : Colour) → RanWithWaits (λ i o. SaidBy S H i
      × WasSent (flat_map (lines_to S) H) (flat_map (broken_block S) H) o) (w.engines S) (w'.engines S)
  -- the clock was read as often as the acts say, and showed their moments
  pub moments : ClockReadings w.coming w'.coming (flat_map moment_shown H)

-- `end` reports a match of the acts `H` by the rules `r` that ended for this reason in the state `final`
pub record ReportedAs (r : Rules) (H : List Act) (final : Match) (reason : Reason) (end : MatchEnd) : Type 0 where
  pub ended : final.phase ≡ Over reason
  -- outcome, comment and kind of end are by the board's verdict after the moves played, if any; otherwise by the reason
  pub report : reported (reported_reason (verdict r.start final.played) reason) ≡ (end.outcome, end.comment, end.ended)
  -- each engine's name is the last `myname` of its handshake, cut to 60 bytes (`cut_tag`); empty without one
  pub name : (S : Colour) → by_colour end.white_name end.black_name S
      ≡ cut_tag (last_said (λ v. v.text) [] (codes "myname") (final.seat S).items)
  -- the fault that ended the match, with its side; otherwise a failed write after the end, if any (White's, if both)
  pub fault : end.fault ≡ reported_fault reason (λ S. nat_lt 0 (length (flat_map (broken_block S) H)))

-- a match of the acts `H`, which ended for this reason, was played as `setup` says, from the world `w` to `w'`, and
-- reported as `end`. The game then has the match's start and moves and, unless the board has a verdict, the reason's
-- result declared; its limit of half-moves, by which the match was played, stays
abbrev pub PlayedBy : List Act → Reason → Setup → MatchEnd → World → World → Type 0
PlayedBy H reason setup end w w' =
    let r = rules_of setup.start (of_colour setup.levels) setup.patience setup.draws w.game.limit in
    (final : Match) × Passed r H final w w' × ReportedAs r H final reason end
    × (w'.game ≡ game.with_state w.game (record {
      start = setup.start;
      moves = final.played;
      declared = declared_at (verdict r.start final.played) reason;
    }))

-- a match was played as `setup` says, and reported as `end`: `PlayedBy` for some acts and reason, so devices, report
-- and game agree with one match
abbrev pub Played : Setup → MatchEnd → World → World → Type 0
Played setup end w w' = (H : List Act) × (reason : Reason) × PlayedBy H reason setup end w w'

-- a match was `Played`, and the claim `noted` holds of the notes that a witness, such as the log, is given of its acts
abbrev pub PlayedNoting : (List Note → Type 0) → Setup → MatchEnd → World → World → Type 0
PlayedNoting noted setup end w w' =
    (H : List Act) × (reason : Reason) × noted (flat_map (notes_of reason) H) × PlayedBy H reason setup end w w'

-- a match was played at a table as `setup` says, and reported as `end`. From the table's state `old` to `new` just the
-- steps of its acts passed, with its notes and waits (`watched`). The game went from `g` to `g'` as in `PlayedBy`
abbrev pub PlayedAt : Setup → MatchEnd → Passing → Passing → game.Seen → game.Seen → Type 0
PlayedAt setup end old new g g' =
    let r = rules_of setup.start (of_colour setup.levels) setup.patience setup.draws g.limit in
    (H : List Act) × (reason : Reason) × (final : Match)
    × IsMatch r H final × Passes old new (watched r reason beginning.after H) × ReportedAs r H final reason end
    × (g' ≡ game.with_state g (record {
      start = setup.start;
      moves = final.played;
      declared = declared_at (verdict r.start final.played) reason;
    }))
