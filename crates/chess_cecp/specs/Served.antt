-- What a server of lines, such as a session, reads and writes, by how it ends.
use Rattle.std.specs.Prelude.{◌≡◌, ◌≤◌, ℕ, nat_lt, Bool, true, false, List, length, take, slice_get, Some, Result, Ok, Err}
use Rattle.byte_devices.specs.Transfers.{FromInput, ToOutput, IsWhole, all_flushed, BreaksOffIn}
use Rattle.text_lines.specs.Lines.{LineSeen, stream_lines}
use Rattle.chess_cecp.specs.Serving.{Server, responses}
use Rattle.chess_cecp.specs.declared.run.End.{End}
use Rattle.chess_cecp.specs.declared.run.End.TheVariants.{Quit, InputEnded}
use Rattle.chess_cecp.specs.declared.run.Fault.{Fault}
use Rattle.chess_cecp.specs.declared.run.Fault.TheVariants.{Read, Write}
use Rattle.chess_cecp.specs.declared.session.TheConstants.{COMMAND_LEN}

-- the lines in what was read (`i`). Bytes after the last `\n` are a line only if the input's end was reported. A line
-- of more than `COMMAND_LEN` (1,024) bytes is too long
abbrev pub lines_read : FromInput → List LineSeen
lines_read i = stream_lines COMMAND_LEN i.ended i.text

-- the lines in what was read (`i`) that `\n` had ended before the last successful read. A server answers them before
-- that read, so it ends or fails at a later line, if at all
abbrev pub lines_before_last_read : FromInput → List LineSeen
lines_before_last_read i = stream_lines COMMAND_LEN false i.early

-- the server `respond` answered the lines read (`i`): all if none ends it (`ends` is false), otherwise all up to the
-- first that ends it. Just their answers were written and flushed (`o`), and no write or flush failed; a flush
-- succeeded if and only if a line was read. `s` and `s'` are the states before and after
abbrev pub AnswersAll : {S : Type 0} → Server S → S → S → Bool → FromInput → ToOutput → Type 0
AnswersAll respond s s' ends i o = let due = responses respond s (lines_read i) in
    (o ≡ all_flushed (nat_lt 0 (length (lines_read i))) due.text) × (s' ≡ due.state) × (due.ends ≡ ends)

-- the server `respond` answered the lines `before`, none of which ends it, and flushed the answers (without such
-- lines no flush succeeded). In the answer to `line` a write or flush failed: nothing, a beginning or all of it was
-- written, and not flushed. `o` is what was written, `s` the first state, `s'` that after `line`
abbrev pub BreaksOffAt : {S : Type 0} → Server S → S → S → List LineSeen → LineSeen → ToOutput → Type 0
BreaksOffAt respond s s' before line o = let due = responses respond s before in let last = respond due.state line in
    (due.ends ≡ false) × BreaksOffIn (all_flushed (nat_lt 0 (length before)) due.text) last.text o × (s' ≡ last.state)

-- what the server `respond` reads (`i`) and writes (`o`) from the state `s` to `s'`, by the result of the run
abbrev pub Served : {S : Type 0} → Server S → S → S → Result End Fault → FromInput → ToOutput → Type 0
-- no read failed; the server answered all lines up to the first that ends it, which the last read completed
Served respond s s' (Ok Quit) i o = (i.failed ≡ false) × AnswersAll respond s s' true i o
    × ((responses respond s (lines_before_last_read i)).ends ≡ false)
-- the input was read to its end, and no read failed; the server answered all lines
Served respond s s' (Ok InputEnded) i o = IsWhole i × AnswersAll respond s s' false i o
-- a read failed before the input's end; the server answered all lines that `\n` ended
Served respond s s' (Err Read) i o = (i.ended ≡ false) × (i.failed ≡ true) × AnswersAll respond s s' false i o
-- no read failed; a write or flush failed in the answer to `line`, which `n` lines precede and the last read completed
Served respond s s' (Err Write) i o =
    (i.failed ≡ false) × ((n : ℕ) × (line : LineSeen) × (slice_get (lines_read i) n ≡ Some line)
    × (length (lines_before_last_read i) ≤ n) × BreaksOffAt respond s s' (take n (lines_read i)) line o)
