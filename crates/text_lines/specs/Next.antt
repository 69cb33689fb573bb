-- What a call for the next line does.
use Rattle.std.specs.Prelude.{◌≡◌, ℕ, ◌+◌, ◌-◌, ◌*◌, ◌<◌, ◌≤◌, ◌⊎◌, Bool, true, false, List, [], ◌∷◌, ◌++◌, length, take, Option, None, Some, Result, Ok, Err}
use Rattle.std.specs.Bool.{MatchBool}
use Rattle.std.specs.Io.KnownBytes.{Consumes, IsAtEnd}
use Rattle.byte_devices.specs.Devices.{InputState, saturating_increment}
use Rattle.text_lines.specs.Lines.{LineSeen, Held, nothing_held, lines_held}

-- these bytes without the last `len`, which the last read gave
abbrev pub before_piece : ℕ → List ℕ → List ℕ
before_piece len bytes = take (length bytes - len) bytes

-- no read was made once a whole line was held: either nothing was read, or `held` and then the bytes `given` without
-- those of the last read have no `\n`. `r` and `r'` are the input before and after
abbrev pub Waits : ℕ → InputState → InputState → Held → List ℕ → Type 0
Waits n r r' held given =
    ((given ≡ []) × (r'.last_len ≡ r.last_len))
    ⊎ ((r'.last_len ≤ length given) × (lines_held n false held (before_piece r'.last_len given) ≡ []))

-- a number that falls with each line returned and each wait in which nothing came: 1,025 for each read or such wait
-- that can still come (one read gives at most 1,024 bytes), and 1 for each byte held and not yet looked at
abbrev pub work : InputState → Held → ℕ
work r held = r.pieces_left * 1025 + length held.coming

-- `line`, which `\n` ended, was returned: it is the first line (too long if of more than `n` bytes) of what was held
-- and then read (`given`); the lines of `held'` follow it, however the stream continues. `r` and `r'` are the input
-- before and after, `held` and `held'` the bytes read and not yet returned before and after
pub record GotLine (n : ℕ) (r r' : InputState) (held held' : Held) (given : List ℕ) (line : LineSeen) : Type 0 where
  -- whatever comes next (`rest`), and whether the stream ends then (`at_end`) or not
  pub lines : (at_end : Bool) (rest : List ℕ)
      → lines_held n at_end held (given ++ rest) ≡ line ∷ lines_held n at_end held' rest
  -- no failure, end or silence is counted
  pub failures : r'.failure_count ≡ r.failure_count
  pub ends : r'.end_count ≡ r.end_count
  pub silences : r'.silence_count ≡ r.silence_count
  -- so calls can't return lines for ever
  pub falls : work r' held' < work r held

-- `line` was returned, which the end of the stream ended, not `\n`: it is all that was held and then read (`given`).
-- The arguments are as in `GotLine`
pub record GotLast (n : ℕ) (r r' : InputState) (held held' : Held) (given : List ℕ) (line : LineSeen) : Type 0 where
  -- it has no `\n`, so without the end it is no line
  pub whole : lines_held n false held given ≡ []
  -- with the end it is this one line
  pub lines : lines_held n true held given ≡ line ∷ []
  -- no byte is held
  pub rest : held' ≡ nothing_held
  -- no known byte is left to read
  pub at_end : IsAtEnd r'.known_bytes
  -- only an end is counted
  pub failures : r'.failure_count ≡ r.failure_count
  pub ends : r'.end_count ≡ saturating_increment r.end_count
  pub silences : r'.silence_count ≡ r.silence_count

-- the end of the stream was reported, and what was held and then read (`given`) gives no line. The arguments are as in
-- `GotLine`
pub record GotNone (n : ℕ) (r r' : InputState) (held held' : Held) (given : List ℕ) : Type 0 where
  -- no line, even now that the stream has ended
  pub lines : (at_end : Bool) → lines_held n at_end held given ≡ []
  pub rest : held' ≡ nothing_held
  -- no known byte is left to read
  pub at_end : IsAtEnd r'.known_bytes
  -- only an end is counted
  pub failures : r'.failure_count ≡ r.failure_count
  pub ends : r'.end_count ≡ saturating_increment r.end_count
  pub silences : r'.silence_count ≡ r.silence_count

-- a read failed: what was held and then read (`given`) has no whole line, and all of it is kept. The arguments are as
-- in `GotLine`
pub record GotFault (n : ℕ) (r r' : InputState) (held held' : Held) (given : List ℕ) : Type 0 where
  pub whole : lines_held n false held given ≡ []
  -- nothing is lost: whatever comes next (`rest`), the lines are the same
  pub lines : (at_end : Bool) (rest : List ℕ)
      → lines_held n at_end held (given ++ rest) ≡ lines_held n at_end held' rest
  -- only a failure is counted
  pub failures : r'.failure_count ≡ saturating_increment r.failure_count
  pub ends : r'.end_count ≡ r.end_count
  pub silences : r'.silence_count ≡ r.silence_count

-- when the call's time was up, what was held and then read (`given`) had no whole line; all of it is kept. The
-- arguments are as in `GotLine`
pub record GotSilence (n : ℕ) (r r' : InputState) (held held' : Held) (given : List ℕ) : Type 0 where
  pub whole : lines_held n false held given ≡ []
  -- nothing is lost: whatever comes next (`rest`), the lines are the same
  pub lines : (at_end : Bool) (rest : List ℕ)
      → lines_held n at_end held (given ++ rest) ≡ lines_held n at_end held' rest
  -- only a silence is counted
  pub failures : r'.failure_count ≡ r.failure_count
  pub ends : r'.end_count ≡ r.end_count
  pub silences : r'.silence_count ≡ saturating_increment r.silence_count
  -- what can still come gets less
  pub falls : work r' held' < work r held

-- what a call for the next line returned after it read `given`: a line, `None` at the end, or a fault. The other
-- arguments are as in `GotLine`
abbrev pub Got : {E : Type 0} → ℕ → InputState → InputState → Held → Held → List ℕ → Result (Option LineSeen) E → Type 0
Got n r r' held held' given (Ok (Some line)) =
    MatchBool line.ended (GotLine n r r' held held' given line) (GotLast n r r' held held' given line)
Got n r r' held held' given (Ok None) = GotNone n r r' held held' given
Got n r r' held held' given (Err e) = GotFault n r r' held held' given

-- a call for the next line: it reads only while no whole line is held, and `result` is the next line (too long if of
-- more than `n` bytes), `None` at the end, or a fault. The other arguments are as in `GotLine`
abbrev pub NextLine : {E : Type 0} → ℕ → InputState → InputState → Held → Held → Result (Option LineSeen) E → Type 0
NextLine n r r' held held' result =
    (given : List ℕ) × Consumes r.known_bytes r'.known_bytes given × Waits n r r' held given
    × Got n r r' held held' given result

-- the line if true, otherwise `None`
abbrev pub line_if : Bool → LineSeen → Option LineSeen
line_if true line = Some line
line_if false line = None

-- the result of a call that reads the next line into `line`, as an option: `line` for true, `None` for false
abbrev pub line_read : {E : Type 0} → Result Bool E → LineSeen → Result (Option LineSeen) E
line_read (Ok some) line = Ok (line_if some line)
line_read (Err e) line = Err e

-- a call for the next line that waits only for so long. `Ok (Some true)`: the next line is `line`. `Ok (Some false)`:
-- the input ended, with no line left. `Ok None`: time was up before a whole line had come. `Err`: a read failed. The
-- other arguments are as in `GotLine`
abbrev pub NextLineUntil : {E : Type 0} → ℕ → InputState → InputState → Held → Held → Result (Option Bool) E
    → LineSeen → Type 0
NextLineUntil {E = E} n r r' held held' (Ok (Some some)) line =
    NextLine {E = E} n r r' held held' (Ok (line_if some line))
NextLineUntil n r r' held held' (Ok None) line =
    (given : List ℕ) × Consumes r.known_bytes r'.known_bytes given × Waits n r r' held given
    × GotSilence n r r' held held' given
NextLineUntil n r r' held held' (Err e) line = NextLine n r r' held held' (Err e)
