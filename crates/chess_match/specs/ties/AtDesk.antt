-- What passed at a desk, the table made of pipes, a clock and a witness, as each of these devices shows it.
use Rattle.std.specs.Prelude.{◌≡◌, ℕ, ◌+◌, List, [], ◌∷◌, ◌++◌, Option, None, Some}
use Rattle.std.specs.Bool.{MatchBool}
use Rattle.byte_devices.specs.Devices.{InputState, OutputState, CutShort}
use Rattle.byte_devices.specs.Transfers.{Devices, OutputTook, all_of}
use Rattle.chess_base.specs.declared.man.Colour.{Colour}
use Rattle.chess_base.specs.ByColour.{by_colour, of_colour}
use Rattle.chess_base.specs.Men.{same_colour}
use Rattle.text_lines.specs.Lines.{Held, nothing_held}
use Rattle.text_lines.specs.Next.{work}
use Rattle.chess_match.specs.Acts.{Act, Sends, SendFails, Happens}
use Rattle.chess_match.specs.Events.{Line, Silent}
use Rattle.chess_match.specs.Lines.{bytes_of}
use Rattle.chess_match.specs.Notes.{Note, Noted}
use Rattle.chess_match.specs.Run.{ClockReadings}
use Rattle.chess_match.specs.Table.{Step, Does, LooksFor, ReadsLine, FindsNoLine, ReadsClock, Notes, Beginning, Passing, Passes}
use Rattle.chess_match.specs.declared.desk.Desk.{Desk}
use Rattle.chess_match.specs.ties.EngineOutput.{OutputAt}

-- the acts at engines among these steps, in order. A line or silence is given the moment 0: an engine's devices show no
-- clock
abbrev pub acts_in : List Step → List Act
acts_in [] = []
acts_in (Does act ∷ K) = act ∷ acts_in K
acts_in (ReadsLine S text ∷ K) = Happens (Line S text 0) ∷ acts_in K
acts_in (FindsNoLine S ∷ K) = Happens (Silent S 0) ∷ acts_in K
acts_in (LooksFor S until ∷ K) = acts_in K
acts_in (ReadsClock S moment ∷ K) = acts_in K
acts_in (Notes note ∷ K) = acts_in K

-- the moments that the clock showed among these steps
abbrev pub moments_in : List Step → List ℕ
moments_in [] = []
moments_in (ReadsClock S moment ∷ K) = moment ∷ moments_in K
moments_in (_ ∷ K) = moments_in K

-- the notes among these steps
abbrev pub notes_in : List Step → List Note
notes_in [] = []
notes_in (Notes note ∷ K) = note ∷ notes_in K
notes_in (_ ∷ K) = notes_in K

-- these acts took the output of the engine of the side `S` from `r` to `r'`; `h` and `h'` are the bytes of it that were
-- read and not yet returned, before and after
abbrev pub ReadsOf : Colour → List Act → InputState → InputState → Held → Held → Type 0
ReadsOf S [] r r' h h' = (r' ≡ r) × (h' ≡ h)
ReadsOf S (a ∷ H) r r' h h' =
    (v : InputState) × (k : Held) × OutputAt S a r v h k × ReadsOf S H v r' k h'

-- this act took the input of the engine of the side `S` from `w` to `w'`
abbrev pub WritesAt : Colour → Act → OutputState → OutputState → Type 0
WritesAt S (Sends block) w w' =
    MatchBool (same_colour block.to S) (OutputTook w w' (all_of (bytes_of block.lines))) (w' ≡ w)
WritesAt S (SendFails block) w w' =
    MatchBool (same_colour block.to S) (CutShort w w' (bytes_of block.lines)) (w' ≡ w)
WritesAt S _ w w' = w' ≡ w

-- these acts took the input of the engine of the side `S` from `w` to `w'`
abbrev pub WritesOf : Colour → List Act → OutputState → OutputState → Type 0
WritesOf S [] w w' = w' ≡ w
WritesOf S (a ∷ H) w w' = (v : OutputState) × WritesAt S a w v × WritesOf S H v w'

-- the witness may have been given the notes `more` after those in `first`; `None`: nothing is said
abbrev pub NotedSince : Noted → Option (List ℕ × List Note) → List Note → Type 0
NotedSince witness None more = Unit {0}
NotedSince witness (Some first) more = witness first.0 (first.1 ++ more)

-- since the desk was as in `begun` just these steps passed: the devices did the acts, and the witness was given the
-- notes. The arguments from `engines` to `names` are what contracts see of the desk now
pub record Did (begun : Beginning) (engines : Colour → Devices) (held : Colour → Held) (coming : ℕ → Option ℕ)
    (witness : Noted) (names : List ℕ) (steps : List Step) : Type 0 where
  pub named : names ≡ begun.names
  pub read : (S : Colour)
      → ReadsOf S (acts_in steps) (begun.engines S).input (engines S).input nothing_held (held S)
  pub written : (S : Colour) → WritesOf S (acts_in steps) (begun.engines S).output (engines S).output
  pub moments : ClockReadings begun.coming coming (moments_in steps)
  pub noted : NotedSince witness begun.noted (notes_in steps)

-- which steps may have passed at the desk `d`. What contracts see of its devices is given by `input`, `output`, `shown`
-- and `noted`
abbrev pub passed_at : {R W M L : Type 0} → (R → InputState) → (W → OutputState) → (M → ℕ → Option ℕ) → (L → Noted)
    → Desk R W M L → Passing
passed_at input output shown noted d = λ begun steps. Did begun (by_colour
    (record { input = input d.white_reader.now; output = output d.white_writer.now })
    (record { input = input d.black_reader.now; output = output d.black_writer.now }))
    (of_colour d.lines) (shown d.moments.now) (noted d.witness.now)
    (d.white_reader.ghost_name ∷ d.white_writer.ghost_name ∷ d.black_reader.ghost_name ∷ d.black_writer.ghost_name
    ∷ d.moments.ghost_name ∷ d.witness.ghost_name ∷ []) steps

-- from the desk `old` to `new` just this step passed
abbrev pub PassesAt : {R W M L : Type 0} → (R → InputState) → (W → OutputState) → (M → ℕ → Option ℕ) → (L → Noted)
    → Desk R W M L → Desk R W M L → Step → Type 0
PassesAt input output shown noted old new step =
    Passes (passed_at input output shown noted old) (passed_at input output shown noted new) (step ∷ [])

-- from the desk `old` to `new` just a look for a line of this side passed, which waits until the moment `until`, if
-- any, and then this step, which says what it found
abbrev pub LooksAt : {R W M L : Type 0} → (R → InputState) → (W → OutputState) → (M → ℕ → Option ℕ) → (L → Noted)
    → Desk R W M L → Desk R W M L → Colour → Option ℕ → Step → Type 0
LooksAt input output shown noted old new side until step = Passes (passed_at input output shown noted old)
    (passed_at input output shown noted new) (LooksFor side until ∷ step ∷ [])

-- a number that gets smaller with each line that is read at the desk `d` and each look that finds none: the sum of both
-- engines'
abbrev pub left_at : {R W M L : Type 0} → (R → InputState) → Desk R W M L → ℕ
left_at input d = work (input d.white_reader.now) d.lines.white + work (input d.black_reader.now) d.lines.black
