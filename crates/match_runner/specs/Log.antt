-- The log of a match: a line for each line that an engine sends or is sent, as in XBoard's debug file, and for other
-- events, such as the end of an engine's output.
use Rattle.std.specs.Prelude.{◌≡◌, ℕ, ◌==◌, nat_lt, if◌then◌else◌, List, [], ◌∷◌, ◌++◌, length, flat_map, map, codes, decimal, Bool, true, false, Some, None}
use Rattle.std.specs.List.{onto_first}
use Rattle.byte_devices.specs.Bytes.{byte, new_line, shown_byte}
use Rattle.chess_base.specs.declared.man.Colour.{Colour}
use Rattle.chess_base.specs.Men.{same_colour}
use Rattle.byte_devices.specs.Devices.{OutputState, Begins}
use Rattle.byte_devices.specs.Transfers.{ToOutput, OutputTook, all_flushed}
use Rattle.chess_match.specs.Events.{Line, Opened, Silent, OutputEnds, FailsToRead, FailsToWrite}
use Rattle.chess_match.specs.Notes.{Note, Happened, Gives}
use Rattle.match_runner.specs.declared.log.Log.{Log}

-- ---- one line

-- a log's name of the engine of `side`: `first : ` for that of `--white`, which has the side `first_side`, or
-- `second: `
abbrev pub engine_name : Colour → Colour → List ℕ
engine_name first_side side = if same_colour side first_side then codes "first : " else codes "second: "

-- a line such as `312 <first : move e2e4`: the moment `now` in milliseconds, `mark`, the engine's name, and `text` with
-- `?` for all but printable ASCII. `<` marks a text that the engine sent, `>` one that it was sent (even if that
-- failed), `!` one that says what happened
abbrev pub log_line : ℕ → ℕ → List ℕ → List ℕ → List ℕ
log_line now mark engine text = decimal now ++ (byte " " ∷ mark ∷ []) ++ engine ++ map shown_byte text ++ new_line ∷ []

-- ---- the lines of notes

-- the lines of a text, without their `\n`: `a\n\nb` has `a`, an empty one and `b`; `a\n` has only `a`
abbrev pub lines_in : List ℕ → List (List ℕ)
lines_in [] = []
lines_in (b ∷ bs) = if b == new_line then [] ∷ lines_in bs else onto_first b (lines_in bs)

-- what is logged for a note: a line for an event (none for `Opened`), or one for each line that an engine is sent
-- (`Gives`). `engine c` is the name of side `c`'s engine; `moment` is what the clock showed last before the note, or 0
abbrev pub note_text : (Colour → List ℕ) → ℕ → Note → List ℕ
note_text engine moment (Happened (Line c (Some text) now)) = log_line now (byte "<") (engine c) text
note_text engine moment (Happened (Line c None now)) = log_line now (byte "!") (engine c) (codes "line too long")
note_text engine moment (Happened (Opened c now)) = []
note_text engine moment (Happened (Silent c now)) = log_line now (byte "!") (engine c) (codes "no line")
note_text engine moment (Happened (OutputEnds c)) = log_line moment (byte "!") (engine c) (codes "output ended")
note_text engine moment (Happened (FailsToRead c)) = log_line moment (byte "!") (engine c) (codes "read failed")
note_text engine moment (Happened (FailsToWrite c)) = log_line moment (byte "!") (engine c) (codes "write failed")
note_text engine moment (Gives c bytes) = flat_map (log_line moment (byte ">") (engine c)) (lines_in bytes)

-- what the clock showed last at or before this note: the note's moment or, without one, `moment`, the last before it
abbrev pub moment_after : ℕ → Note → ℕ
moment_after moment (Happened (Line c text now)) = now
moment_after moment (Happened (Opened c now)) = now
moment_after moment (Happened (Silent c now)) = now
moment_after moment _ = moment

-- the lines for these notes. `first_side` is the side of `--white`'s engine, `moment` what the clock showed last before
-- the notes, or 0
abbrev pub log_from : Colour → ℕ → List Note → List ℕ
log_from first_side moment [] = []
log_from first_side moment (n ∷ notes) =
    note_text (engine_name first_side) moment n ++ log_from first_side (moment_after moment n) notes

-- ---- the output

-- what contracts see of a log
pub record LogSeen : Type 0 where
  -- where it writes to
  pub output : OutputState
  -- whether a write or flush failed; after that it writes nothing more
  pub broken : Bool

-- what contracts see of a log whose output is in the state `o`
abbrev pub log_seen : OutputState → Bool → LogSeen
log_seen o broken = record { output = o; broken = broken }

-- `o` is what a log's output took of `text`, by whether the log is broken afterwards
abbrev pub LogsText : Bool → List ℕ → ToOutput → Type 0
-- all was written and flushed (an empty text without a flush)
LogsText false text o = o ≡ all_flushed (nat_lt 0 (length text)) text
-- a write or flush failed after a beginning, maybe nothing or all
LogsText true text o = Begins (o.flushed ++ o.left) text × (o.failed ≡ true)

-- a log was given this text, and went from `l` to `l'`: it wrote the text, or broke while it did so (`LogsText`). If it
-- is broken in `l`, or the text is empty, nothing changes
abbrev pub Logged : LogSeen → LogSeen → List ℕ → Type 0
Logged l l' text = (l.broken ≡ true → l' ≡ l) × (text ≡ [] → l' ≡ l)
    × (l.broken ≡ false → (o : ToOutput) × OutputTook l.output l'.output o × LogsText l'.broken text o)

-- a log was given this note, and went from `l` to `l'`: it was given the note's lines to write (`Logged`), and its
-- `moment` is now what the clock showed last at the note. `seen` gives what contracts see of its output
abbrev pub LogsNote : {E : Type 0} → (E → OutputState) → Log E → Log E → Note → Type 0
LogsNote seen l l' note =
    Logged (log_seen (seen l.output) l.broken) (log_seen (seen l'.output) l'.broken)
    (note_text (engine_name l.first) l.moment note)
    × (l'.first ≡ l.first) × (l'.moment ≡ moment_after l.moment note)
