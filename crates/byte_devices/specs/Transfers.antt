-- What a run (one call of a function such as `run_session`) reads from an input and writes to an output, and how this
-- changes the devices' states.
use Rattle.std.specs.Prelude.{◌≡◌, ℕ, ◌-◌, Bool, true, false, if◌then◌else◌, List, [], ◌++◌, length, take}
use Rattle.std.specs.Io.KnownBytes.{Appends, Consumes, IsAtEnd}
use Rattle.byte_devices.specs.Devices.{InputState, OutputState, saturating_increment, saturating_add, Begins}

-- what came from an input in a run
pub record FromInput : Type 0 where
  -- all bytes read
  pub text : List ℕ
  -- `text` without what the last successful read gave: `e4` after reads of `e4` and `\nd`; all of `text` if this read
  -- reported the end
  pub early : List ℕ
  -- whether the end of the input was reported after `text`
  pub ended : Bool
  -- whether a read failed after `text`
  pub failed : Bool
  -- in how many waits nothing came
  pub silences : ℕ

-- what went to an output in a run
pub record ToOutput : Type 0 where
  -- the bytes written and flushed
  pub flushed : List ℕ
  -- the bytes written after `flushed`, not flushed
  pub left : List ℕ
  -- whether a flush succeeded, even of no bytes
  pub any_flush : Bool
  -- whether a write or a flush failed after all these bytes
  pub failed : Bool

-- the states of an input and of an output
pub record Devices : Type 0 where
  pub input : InputState
  pub output : OutputState

-- from its state `r` to `r'` the input gave just what `i` says
pub record InputGave (r r' : InputState) (i : FromInput) : Type 0 where
  -- if the bytes to come are known: in `r` they are `i.text` and then those of `r'`
  pub bytes : Consumes r.known_bytes r'.known_bytes i.text
  pub early : i.early ≡ take (length i.text - r'.last_len) i.text
  pub at_end : i.ended ≡ true → IsAtEnd r'.known_bytes
  pub ends : r'.end_count ≡ (if i.ended then saturating_increment r.end_count else r.end_count)
  pub failures : r'.failure_count ≡ (if i.failed then saturating_increment r.failure_count else r.failure_count)
  pub silences : r'.silence_count ≡ saturating_add r.silence_count i.silences

-- from its state `w` to `w'` the output took just what `o` says
pub record OutputTook (w w' : OutputState) (o : ToOutput) : Type 0 where
  -- if the bytes taken are known: in `w'` they are those of `w`, then `o.flushed`, then `o.left`
  pub bytes : Appends w.known_bytes w'.known_bytes (o.flushed ++ o.left)
  pub flushed : o.any_flush ≡ false → o.flushed ≡ []
  pub unflushed : w'.unflushed ≡ saturating_add (if o.any_flush then 0 else w.unflushed) (length o.left)
  pub failures : w'.failure_count ≡ (if o.failed then saturating_increment w.failure_count else w.failure_count)

-- a run took the devices from the states `d` to `d'`, and `P i o` holds of some `i` that the input gave and some `o`
-- that the output took. There may have been waits in which nothing came
abbrev pub RanWithWaits : (FromInput → ToOutput → Type 0) → Devices → Devices → Type 0
RanWithWaits P d d' =
    (i : FromInput) × (o : ToOutput) × InputGave d.input d'.input i × OutputTook d.output d'.output o × P i o

-- as `RanWithWaits`, but without a wait in which nothing came
abbrev pub Ran : (FromInput → ToOutput → Type 0) → Devices → Devices → Type 0
Ran P = RanWithWaits (λ i o. (i.silences ≡ 0) × P i o)

-- ---- what came from an input

-- the input was read until its end was reported, and no read failed
abbrev pub IsWhole : FromInput → Type 0
IsWhole i = (i.ended ≡ true) × (i.failed ≡ false)

-- ---- what went to an output

-- no byte was written, no flush succeeded, and nothing failed
abbrev pub nothing : ToOutput
nothing = record { flushed = []; left = []; any_flush = false; failed = false }

-- this text was written and flushed, and nothing failed; even if it is empty, a flush succeeded
abbrev pub all_of : List ℕ → ToOutput
all_of text = record { flushed = text; left = []; any_flush = true; failed = false }

-- this text was written and flushed, and nothing failed. `flushes`: whether a flush succeeded; if none did, the text
-- is empty by `OutputTook`
abbrev pub all_flushed : Bool → List ℕ → ToOutput
all_flushed flushes text = record { flushed = text; left = []; any_flush = flushes; failed = false }

-- this text was written, no flush succeeded, and nothing failed
abbrev pub all_unflushed : List ℕ → ToOutput
all_unflushed text = record { flushed = []; left = text; any_flush = false; failed = false }

-- `o` is `before`, then a prefix of `text`, maybe empty or all of it, not flushed; then a write or a flush failed
abbrev pub BreaksOffIn : ToOutput → List ℕ → ToOutput → Type 0
BreaksOffIn before text o =
    (start : List ℕ) × Begins start text × (o ≡ record before { left = before.left ++ start; failed = true })
