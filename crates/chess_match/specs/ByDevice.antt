-- What each act of a match did at each device, and what a witness is given of it.
use Rattle.std.specs.Prelude.{ℕ, Bool, true, false, List, [], ◌∷◌, Option}
use Rattle.chess_base.specs.declared.man.Colour.{Colour}
use Rattle.chess_base.specs.Men.{same_colour}
use Rattle.chess_match.specs.Acts.{Act, Sends, SendFails, Happens}
use Rattle.chess_match.specs.Events.{Line, Opened, Silent, OutputEnds, FailsToRead, FailsToWrite}
use Rattle.chess_match.specs.Notes.{Note, Happened, Gives}
use Rattle.chess_base.specs.Options.{list_if}
use Rattle.chess_match.specs.Lines.{SentLine, bytes_of}
use Rattle.chess_match.specs.Reasons.{is_write_fault_of}
use Rattle.chess_match.specs.declared.reason.Reason.{Reason}

-- ---- what was read

-- the text of the line that this act read from `S`'s engine (`None`: too long); an empty list if it read none
abbrev pub line_read : Colour → Act → List (Option (List ℕ))
line_read S (Happens (Line side text moment)) = list_if (same_colour side S) (text ∷ [])
line_read S _ = []

-- whether this act read the end of the output of `S`'s engine
abbrev pub is_end_of : Colour → Act → Bool
is_end_of S (Happens (OutputEnds side)) = same_colour side S
is_end_of S _ = false

-- whether this act is a failed read from `S`'s engine
abbrev pub is_failed_read_of : Colour → Act → Bool
is_failed_read_of S (Happens (FailsToRead side)) = same_colour side S
is_failed_read_of S _ = false

-- whether this act is a look for a line of `S`'s engine that found none
abbrev pub is_silence_of : Colour → Act → Bool
is_silence_of S (Happens (Silent side moment)) = same_colour side S
is_silence_of S _ = false

-- how this act ended a look for a line of `S`'s engine: a list of `true` for a silence, of `false` for a line, the
-- output's end or a failed read; empty if it ended none
abbrev pub look : Colour → Act → List Bool
look S (Happens (Silent side moment)) = list_if (same_colour side S) (true ∷ [])
look S (Happens (Line side text moment)) = list_if (same_colour side S) (false ∷ [])
look S (Happens (OutputEnds side)) = list_if (same_colour side S) (false ∷ [])
look S (Happens (FailsToRead side)) = list_if (same_colour side S) (false ∷ [])
look S _ = []

-- the moment that this act read from the clock; an empty list if it read none
abbrev pub moment_shown : Act → List ℕ
moment_shown (Happens (Line side text moment)) = moment ∷ []
moment_shown (Happens (Opened side moment)) = moment ∷ []
moment_shown (Happens (Silent side moment)) = moment ∷ []
moment_shown _ = []

-- ---- what was written

-- the lines that this act sent to the side `S`; none if sending failed
abbrev pub lines_to : Colour → Act → List SentLine
lines_to S (Sends block) = list_if (same_colour block.to S) block.lines
lines_to S _ = []

-- the lines of the block that this act failed to send to the side `S`, as a list of one; empty if there is none
abbrev pub broken_block : Colour → Act → List (List SentLine)
broken_block S (SendFails block) = list_if (same_colour block.to S) (block.lines ∷ [])
broken_block S _ = []

-- ---- what was noted

-- the notes that a witness is given of this act of a match that ended for this reason
abbrev pub notes_of : Reason → Act → List Note
notes_of reason (Sends block) = Gives block.to (bytes_of block.lines) ∷ []
-- the failure is noted only if the match ended by it
notes_of reason (SendFails block) = Gives block.to (bytes_of block.lines)
    ∷ list_if (is_write_fault_of reason block.to) (Happened (FailsToWrite block.to) ∷ [])
notes_of reason (Happens event) = Happened event ∷ []
