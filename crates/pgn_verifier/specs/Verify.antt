-- What verifying a text as a whole reads and writes.
use Rattle.std.specs.Prelude.{◌≡◌, ◌≤◌, ◌<◌, true, false, List, length, Result, Ok, Err}
use Rattle.byte_devices.specs.Transfers.{FromInput, ToOutput, IsWhole, nothing, all_of, BreaksOffIn}
use Rattle.pgn_pieces.specs.declared.pieces.TheConstants.{PIECE_LEN}
use Rattle.pgn_verifier.specs.declared.fault.VerifyFault.{VerifyFault}
use Rattle.pgn_verifier.specs.declared.fault.VerifyFault.TheVariants.{ReadFailed, WriteFailed, NoMemory, InputTooLong}
use Rattle.verify_options.specs.declared.options.VerifyOptions.{VerifyOptions}
use Rattle.pgn_verifier.specs.declared.tally.Verified.{Verified}
use Rattle.pgn_verifier.specs.Reports.{Placed, AreReports, report_lines, counts_of, verified}

-- what verifying a text reads (`i`) and writes (`o`), by its result. The text is the whole input, of at most 16,777,216
-- bytes (`PIECE_LEN`). After a game with a fault no other is read (`false`). Lines are numbered from 1
abbrev pub Verifies : VerifyOptions → Result Verified VerifyFault → FromInput → ToOutput → Type 0
-- all was read; the lines (maybe none) of the games up to the first fault were written, and then all was flushed
Verifies options (Ok summary) i o = IsWhole i × (length i.text ≤ PIECE_LEN)
    × ((reports : List Placed) × AreReports false options.strict 0 i.text 0 reports
    × (o ≡ all_of (report_lines options i.text 1 reports)) × (summary ≡ verified (counts_of reports)))
-- all was read; then a write or the flush failed. A beginning of what `Ok` writes, maybe nothing or all, was written,
-- nothing flushed
Verifies options (Err WriteFailed) i o = IsWhole i × (length i.text ≤ PIECE_LEN)
    × ((reports : List Placed) × AreReports false options.strict 0 i.text 0 reports
    × BreaksOffIn nothing (report_lines options i.text 1 reports) o)
-- a read failed before the input's end; nothing was written
Verifies options (Err ReadFailed) i o = (i.ended ≡ false) × (i.failed ≡ true) × (o ≡ nothing)
-- memory ran out, before the input's end or, if the input isn't too long, after it; no read failed, nothing was written
Verifies options (Err NoMemory) i o = (i.failed ≡ false) × (i.ended ≡ true → length i.text ≤ PIECE_LEN) × (o ≡ nothing)
-- more than `PIECE_LEN` bytes were read, without the input's end; no read failed, nothing was written
Verifies options (Err InputTooLong) i o =
    (i.failed ≡ false) × (i.ended ≡ false) × (PIECE_LEN < length i.text) × (o ≡ nothing)
