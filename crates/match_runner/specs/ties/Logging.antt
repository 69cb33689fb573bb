-- What code adds to a log, and an earlier state of a log as a text.
use Rattle.std.specs.Prelude.{◌≡◌, ℕ, ◌==◌, nat_lt, Bool, true, false, if◌then◌else◌, List, [], ◌∷◌, ◌++◌, length, codes, decimal, Option, Some, None}
use Rattle.byte_devices.specs.Bytes.{byte}
use Rattle.chess_base.specs.declared.man.Colour.{Colour}
use Rattle.chess_base.specs.declared.man.Colour.TheVariants.{White, Black}
use Rattle.chess_base.specs.Men.{same_colour}
use Rattle.byte_devices.specs.Devices.{OutputState}
use Rattle.byte_devices.specs.Transfers.{ToOutput, OutputTook, all_flushed}
use Rattle.chess_match.specs.Notes.{Note}
use Rattle.match_runner.specs.declared.log.Log.{Log}
use Rattle.match_runner.specs.declared.log.Pending.{Pending}
use Rattle.match_runner.specs.Log.{log_seen, log_from, moment_after, LogSeen, Logged, LogsText}

-- how the log names an engine: that of `--white` (`is_first`) is `first`, the other `second`, whichever side they have
abbrev pub engine_text : Bool → List ℕ
engine_text is_first = if is_first then codes "first : " else codes "second: "

-- what a line of the log begins with, such as `312 <first : `: its moment, its mark, and which engine
abbrev pub line_head : ℕ → ℕ → Bool → List ℕ
line_head moment mark is_first = decimal moment ++ (byte " " ∷ mark ∷ []) ++ engine_text is_first

-- what logging `text` did: as in `Logged`, but the last bytes of the text (`pending`) may still wait to be written. The
-- flags say whether the log was broken before and is now; `o` and `o'` are the output before and after
abbrev pub LogsPending : Bool → Bool → OutputState → OutputState → List ℕ → List ℕ → Type 0
LogsPending false false o o' pending text =
    (written : List ℕ) × OutputTook o o' (all_flushed (nat_lt 0 (length written)) written) × (written ++ pending ≡ text)
LogsPending false true o o' pending text = (t : ToOutput) × OutputTook o o' t × LogsText true text t
LogsPending true broken o o' pending text = (broken ≡ true) × (o' ≡ o)

-- logging `more` took the output and the bytes that wait to be written from `o` and `p` to `o'` and `p'`: whatever text
-- was logged since any earlier state `from` of the log, now that text and `more` are logged
pub record Adds (o o' : OutputState) (p p' : Pending) (more : List ℕ) : Type 0 where
  pub after : (from : LogSeen) (text : List ℕ) → LogsPending from.broken p.broken from.output o p.bytes.items text
      → LogsPending from.broken p'.broken from.output o' p'.bytes.items (text ++ more)

-- what the clock showed last after these notes, if it showed `moment` last before them
abbrev pub moment_from : ℕ → List Note → ℕ
moment_from moment [] = moment
moment_from moment (n ∷ notes) = moment_from (moment_after moment n) notes

-- in a game in which the engine of `--white` has the side `first`, the lines of just these notes were logged since the
-- log's state `from`. The log's state is then `now`; its field `first` is `side`, which is the same side, and its field
-- `moment` is `moment`, what the clock showed last
pub record IsLog (first : Colour) (from : LogSeen) (side : Colour) (now : LogSeen) (moment : ℕ) (notes : List Note)
    : Type 0 where
  pub sided : side ≡ first
  pub written : Logged from now (log_from first 0 notes)
  pub reached : moment ≡ moment_from 0 notes

-- ---- what a log began with, as a text: a witness is known by a text that it held before

-- bytes, or that they are not known (`None`), as one text
abbrev pub text_of_bytes : Option (List ℕ) → List ℕ
text_of_bytes None = []
text_of_bytes (Some bytes) = 0 ∷ bytes

-- the bytes, or `None`, from which `text_of_bytes` made this text
abbrev pub bytes_of_text : List ℕ → Option (List ℕ)
bytes_of_text [] = None
bytes_of_text (_ ∷ bytes) = Some bytes

-- the log's state `l` and the side `first` of the engine of `--white`, as one text, since contracts describe a witness
-- by a text that it held at first
abbrev pub text_of_log : Colour → LogSeen → List ℕ
text_of_log first l = (if same_colour first White then 1 else 0) ∷ (if l.broken then 1 else 0)
    ∷ l.output.failure_count ∷ l.output.unflushed ∷ text_of_bytes l.output.known_bytes

-- the side of the engine of `--white` in a text that `text_of_log` made
abbrev pub first_of_text : List ℕ → Colour
first_of_text [] = White
first_of_text (c ∷ _) = if c == 1 then White else Black

-- the log's state in a text that `text_of_log` made
abbrev pub log_of_text : List ℕ → LogSeen
log_of_text (_ ∷ b ∷ failures ∷ unflushed ∷ rest) = record {
  output = record { known_bytes = bytes_of_text rest; failure_count = failures; unflushed = unflushed };
  broken = b == 1;
}
log_of_text _ = record { output = record { known_bytes = None; failure_count = 0; unflushed = 0 }; broken = false }

-- the log `l` may have been given just these notes in a game, if it held the text `before` as the game began. `seen`
-- gives what contracts see of its output
abbrev pub noted_by : {E : Type 0} → (E → OutputState) → Log E → List ℕ → List Note → Type 0
noted_by seen l before notes = IsLog (first_of_text before) (log_of_text before) l.first
    (log_seen (seen l.output) l.broken) l.moment notes
