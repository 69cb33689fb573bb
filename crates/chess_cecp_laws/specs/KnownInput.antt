-- What a server of lines, such as a session, answers to an input whose bytes are known, however reads cut them.
use Rattle.std.specs.Prelude.{◌≡◌, ℕ, nat_lt, true, List, ◌++◌, length}
use Rattle.std.specs.Option.{IfSome}
use Rattle.byte_devices.specs.Transfers.{FromInput, Devices, OutputTook, all_flushed}
use Rattle.text_lines.specs.Lines.{LineSeen, stream_lines}
use Rattle.chess_cecp.specs.Serving.{Server, responses}
use Rattle.chess_cecp.specs.Served.{lines_read}
use Rattle.chess_cecp.specs.declared.session.TheConstants.{COMMAND_LEN}

-- the lines of a stream that gives these bytes and then ends
abbrev pub lines_of : List ℕ → List LineSeen
lines_of bytes = stream_lines COMMAND_LEN true bytes

-- if all bytes that the input of the devices `d` will give are known, the lines that were read (of `i`, what it gave)
-- are the first lines of these bytes
abbrev pub AreFirstLines : Devices → FromInput → Type 0
AreFirstLines d i = IfSome d.input.known_bytes (λ bytes. (more : List LineSeen)
    × (lines_of bytes ≡ lines_read i ++ more))

-- if all bytes that the input will give are known, the server `respond` answered the lines of these bytes, up to one
-- with which it ends; the answers were written and flushed. `s` and `d` are its state and the devices before, `s'` and
-- `d'` after
abbrev pub AnswersInput : {S : Type 0} → Server S → S → S → Devices → Devices → Type 0
AnswersInput respond s s' d d' = IfSome d.input.known_bytes (λ bytes.
    let due = responses respond s (lines_of bytes) in
    OutputTook d.output d'.output (all_flushed (nat_lt 0 (length (lines_of bytes))) due.text) × (s' ≡ due.state))
