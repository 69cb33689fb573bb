-- The steps at the table of a match, which has both engines, the clock and a witness, such as the log. Each call of it
-- is one step, but a look for a line is two: how long it waits, and what it finds.
use Rattle.std.specs.Prelude.{ℕ, Bool, true, false, if◌then◌else◌, List, [], ◌∷◌, ◌++◌, Option, None, Some, Result, Ok, Err}
use Rattle.byte_devices.specs.Transfers.{Devices}
use Rattle.chess_base.specs.declared.man.Colour.{Colour}
use Rattle.text_lines.specs.Lines.{LineSeen}
use Rattle.chess_match.specs.Acts.{Act, Block, Sends, SendFails, Happens, is_over, waits_until}
use Rattle.chess_match.specs.Effects.{Match, effect}
use Rattle.chess_match.specs.Events.{Event, Line, Opened, Silent, OutputEnds, FailsToRead, FailsToWrite}
use Rattle.chess_base.specs.Options.{list_if}
use Rattle.chess_match.specs.Lines.{bytes_of}
use Rattle.chess_match.specs.Notes.{Note, Happened, Gives}
use Rattle.chess_match.specs.Reasons.{is_write_fault_of}
use Rattle.chess_match.specs.Rules.{Rules}
use Rattle.chess_match.specs.Run.{text_read}
use Rattle.chess_match.specs.declared.reason.Reason.{Reason}

-- one step at a table
pub data Step : Type 0 where
  -- a look for the next line of that side's engine began, which waits until the moment `until` (`None`: as long as it
  -- takes). The next step says what it finds
  LooksFor : (side : Colour) → (until : Option ℕ) → Step
  -- this act, in one call: a block was sent or could not be, an output ended, or a read failed
  Does : (act : Act) → Step
  -- a line of that side's engine was read (`None`: it was too long)
  ReadsLine : (side : Colour) → (text : Option (List ℕ)) → Step
  -- a look found no line of that side's engine yet
  FindsNoLine : (side : Colour) → Step
  -- the clock was read for that side, and showed `moment`, in milliseconds
  ReadsClock : (side : Colour) → (moment : ℕ) → Step
  -- the witness was given a note
  Notes : (note : Note) → Step

-- the steps by which this event is read. A line is waited for until the moment `until`, if any
abbrev pub reads : Option ℕ → Event → List Step
reads until (Line S text moment) = LooksFor S until ∷ ReadsLine S text ∷ ReadsClock S moment ∷ []
reads until (Silent S moment) = LooksFor S until ∷ FindsNoLine S ∷ ReadsClock S moment ∷ []
reads until (Opened S moment) = ReadsClock S moment ∷ []
reads until (OutputEnds S) = LooksFor S until ∷ Does (Happens (OutputEnds S)) ∷ []
reads until (FailsToRead S) = LooksFor S until ∷ Does (Happens (FailsToRead S)) ∷ []
-- `FailsToWrite`, which is never read: it is an act `SendFails`
reads until event = Does (Happens event) ∷ []

-- the steps of these acts, in order, with the notes of each (`notes_of`), in a match by the rules `r` that ended for
-- this reason, and is `m` before them
abbrev pub watched : Rules → Reason → Match → List Act → List Step
watched r reason m [] = []
-- the bytes of a block are noted before it is sent
watched r reason m (Sends block ∷ H) =
    Notes (Gives block.to (bytes_of block.lines)) ∷ Does (Sends block) ∷ watched r reason m H
-- so too if sending fails; then the failure is noted, if the match ended by it
watched r reason m (SendFails block ∷ H) =
    Notes (Gives block.to (bytes_of block.lines)) ∷ Does (SendFails block)
    ∷ (list_if (is_write_fault_of reason block.to) (Notes (Happened (FailsToWrite block.to)) ∷ [])
    ++ watched r reason (if is_over m.phase then m else (effect r m (FailsToWrite block.to)).after) H)
-- an event is noted once it is read
watched r reason m (Happens event ∷ H) =
    reads (waits_until r m.phase m) event ++ (Notes (Happened event) ∷ watched r reason (effect r m event).after H)

-- ---- one call

-- the act of sending a block, by whether it failed
abbrev pub sending : Bool → Block → Act
sending failed block = if failed then SendFails block else Sends block

-- the step of reading from `S`'s engine, by the result of the call
abbrev pub reading_of : {E : Type 0} → Colour → Result (Option LineSeen) E → Step
-- a line, if `\n` ended it; bytes after the last `\n` count as the end of the output
reading_of S (Ok (Some line)) = if line.ended then ReadsLine S (text_read line) else Does (Happens (OutputEnds S))
reading_of S (Ok None) = Does (Happens (OutputEnds S))
reading_of S (Err e) = Does (Happens (FailsToRead S))

-- the step of reading from `S`'s engine for only so long, by the result of the call: `None` if no line had come,
-- otherwise whether there was one (`line`)
abbrev pub reading_until : {E : Type 0} → Colour → Result (Option Bool) E → LineSeen → Step
reading_until S (Ok None) line = FindsNoLine S
reading_until S (Ok (Some true)) line =
    if line.ended then ReadsLine S (text_read line) else Does (Happens (OutputEnds S))
reading_until S (Ok (Some false)) line = Does (Happens (OutputEnds S))
reading_until S (Err e) line = Does (Happens (FailsToRead S))

-- ---- what passed

-- what contracts see of a table at first
pub record Beginning : Type 0 where
  -- each engine's devices: `input` is its output, which is read, and `output` its input
  pub engines : Colour → Devices
  -- the moment that each later reading of the clock was to give, from reading 0 on; `None`: unknown
  pub coming : ℕ → Option ℕ
  -- a text that the witness once held, and the notes that it may have been given from then to this beginning; `None`:
  -- nothing is said
  pub noted : Option (List ℕ × List Note)
  -- numbers that distinguish the table's references to its devices and its witness
  pub names : List ℕ

-- what contracts see of a table: that it may have had this beginning, and that just these steps passed since. Each kind
-- of table has its own
abbrev pub Passing : Type 1
Passing = Beginning → List Step → Type 0

-- from its state `old` to `new` just these steps passed at a table, in order, after what passed up to `old`
pub record Passes (old new : Passing) (steps : List Step) : Type 0 where
  pub extends : (begun : Beginning) (before : List Step) → old begun before → new begun (before ++ steps)
