-- How a match goes on at a table, step by step.
use Rattle.std.specs.Prelude.{◌≡◌, ℕ, ◌||◌, Bool, true, false, List, [], ◌∷◌, ◌++◌, Option}
use Rattle.chess_base.specs.ByColour.{by_colour}
use Rattle.chess_base.specs.declared.man.Colour.{Colour}
use Rattle.chess_base.specs.declared.man.Colour.TheVariants.{White, Black}
use Rattle.chess_base.specs.declared.man.Move.{Move}
use Rattle.chess_base.specs.Men.{same_colour}
use Rattle.text_lines.specs.Lines.{LineSeen}
use Rattle.chess_match.specs.Acts.{Act, Block, IsMatchFrom, Happens, is_over}
use Rattle.chess_match.specs.laws.Laws.{is_broken}
use Rattle.chess_match.specs.Effects.{Match, Over}
use Rattle.chess_match.specs.Events.{Event, Line, Opened, Silent, OutputEnds, FailsToRead, FailsToWrite}
use Rattle.chess_match.specs.Lines.{SentLine, bytes_of}
use Rattle.chess_match.specs.Notes.{Happened, Gives}
use Rattle.chess_match.specs.Rules.{Rules}
use Rattle.chess_match.specs.Run.{text_read}
use Rattle.chess_match.specs.Table.{Step, Does, LooksFor, ReadsLine, FindsNoLine, ReadsClock, Notes, Passing, Passes, sending, watched}
use Rattle.chess_match.specs.declared.reason.Reason.{Reason}
use Rattle.chess_match.specs.declared.state.MatchState.{MatchState}
use Rattle.chess_match.specs.ties.Represents.{Represents}
use Rattle.chess_match.specs.ties.Sane.{IsSane}

-- ---- steps

-- the look for a line by which this event is read, which waits until that moment; none for an event that is not of an
-- engine's output
abbrev pub looks_of : Option ℕ → Event → List Step
looks_of until (Line S text moment) = LooksFor S until ∷ []
looks_of until (Silent S moment) = LooksFor S until ∷ []
looks_of until (OutputEnds S) = LooksFor S until ∷ []
looks_of until (FailsToRead S) = LooksFor S until ∷ []
looks_of until _ = []

-- the steps of an event, after the look for a line: it is read, with the clock where it has a moment, and noted. Of a
-- failed write only the note: its act is the block's
abbrev pub steps_of : Event → List Step
steps_of (Line S text moment) =
    ReadsLine S text ∷ ReadsClock S moment ∷ Notes (Happened (Line S text moment)) ∷ []
steps_of (Silent S moment) = FindsNoLine S ∷ ReadsClock S moment ∷ Notes (Happened (Silent S moment)) ∷ []
steps_of (Opened S moment) = ReadsClock S moment ∷ Notes (Happened (Opened S moment)) ∷ []
steps_of (OutputEnds S) = Does (Happens (OutputEnds S)) ∷ Notes (Happened (OutputEnds S)) ∷ []
steps_of (FailsToRead S) = Does (Happens (FailsToRead S)) ∷ Notes (Happened (FailsToRead S)) ∷ []
steps_of (FailsToWrite S) = Notes (Happened (FailsToWrite S)) ∷ []

-- the event of a line of the side `S` that ended with `\n` and came at this moment
abbrev pub line_event : Colour → LineSeen → ℕ → Event
line_event S line moment = Line S (text_read line) moment

-- the steps after a line of the side `S` was read: the clock is read, and the line noted
abbrev pub after_line : Colour → Option (List ℕ) → ℕ → List Step
after_line S text moment = ReadsClock S moment ∷ Notes (Happened (Line S text moment)) ∷ []

-- the steps after no line of the side `S` was found: the clock is read, and the silence noted
abbrev pub after_silence : Colour → ℕ → List Step
after_silence S moment = ReadsClock S moment ∷ Notes (Happened (Silent S moment)) ∷ []

-- the steps of sending these lines to the side `S`, none if there are no lines: their bytes are noted, and then sent,
-- or cannot be, as `failed` says
abbrev pub giving : Bool → Colour → List SentLine → List Step
giving failed S [] = []
giving failed S (l ∷ ls) =
    Notes (Gives S (bytes_of (l ∷ ls))) ∷ Does (sending failed (record { to = S; lines = l ∷ ls })) ∷ []

-- whether the event is one of the output of the engine of the side `S`: a line, a silence, the end or a failed read
abbrev pub is_of_output : Colour → Event → Bool
is_of_output S (Line c text moment) = same_colour c S
is_of_output S (Silent c moment) = same_colour c S
is_of_output S (OutputEnds c) = same_colour c S
is_of_output S (FailsToRead c) = same_colour c S
is_of_output S (Opened c moment) = false
is_of_output S (FailsToWrite c) = false

-- whether the event is a line
abbrev pub is_line_event : Event → Bool
is_line_event (Line c text moment) = true
is_line_event _ = false

-- whether the event is a silence
abbrev pub is_silence : Event → Bool
is_silence (Silent c moment) = true
is_silence _ = false

-- a value for each side: `own` for the side that the first argument names, `others` for the other side; the last
-- argument says for which side it is asked
abbrev pub by_turn : {A : Type 0} → Colour → A → A → Colour → A
by_turn White own others = by_colour own others
by_turn Black own others = by_colour others own

-- ---- what follows

-- if the match `m` is over, it ended for this reason
abbrev pub Ends : Match → Reason → Type 0
Ends m reason = is_over m.phase ≡ true → m.phase ≡ Over reason

-- the steps `K` lead from the match `m`, in which the blocks `due` are still to be sent, to `m'` and `due'`: if any
-- acts `H` are the rest of a match from there, then these acts with those of `K` before them (`H'`) are the rest of one
-- from `m` and `due`. `failed` says to which sides a write failed in `K`
abbrev pub Leads : Rules → Match → List Block → List Step → Match → List Block → (Colour → Bool)
    → Type 0
Leads r m due K m' due' failed = (H : List Act) (final : Match) (reason : Reason)
    → IsMatchFrom r m' due' H final → Ends m' reason
    → (H' : List Act) × IsMatchFrom r m due H' final × (watched r reason m H' ≡ K ++ watched r reason m' H)
    × ((S : Colour) → is_broken H' S ≡ (failed S || is_broken H S))

-- the steps `K` passed, which sent the blocks `due`; or, if a write failed and ended the match, those up to it, and
-- then the other side's end lines. `m` is the match before; `m'` is the one after, of which `core` and the moves
-- `played` are the code's state. `failed` says to which sides a write failed; `old` and `new` are the table before and
-- after
pub record IsDelivered (r : Rules) (old new : Passing) (core : MatchState) (played : List Move) (m : Match)
    (due : List Block) (failed : Colour → Bool) (m' : Match) (K : List Step) : Type 0 where
  pub stands : Represents r core played m'
  pub passes : Passes old new K
  -- the acts of `K` are acts of the match, from `m` to `m'`
  pub leads : Leads r m due K m' [] failed
  -- a match that was over stays as it was
  pub stays : is_over m.phase ≡ true → m' ≡ m
  -- in a match that goes on no write failed
  pub fine : is_over m'.phase ≡ false → (S : Colour) → failed S ≡ false
  pub sane : IsSane r m → IsSane r m'

-- for some steps and some match after them, the blocks `due` were sent as `IsDelivered` says
abbrev pub Delivered : Rules → Passing → Passing → MatchState → List Move → Match → List Block → (Colour → Bool)
    → Type 0
Delivered r old new core played m due failed =
    (m' : Match) × (K : List Step) × IsDelivered r old new core played m due failed m' K
