-- What verifying a collection reads and writes: the input is cut into pieces, each verified as a text of its own.
use Rattle.std.specs.Prelude.{◌≡◌, ◌≤◌, ◌^◌, ℕ, ◌+◌, true, false, if◌then◌else◌, List, [], ◌∷◌, ◌++◌, length, Result, Ok, Err}
use Rattle.byte_devices.specs.Transfers.{FromInput, ToOutput, IsWhole, nothing, all_of, all_unflushed, BreaksOffIn}
use Rattle.pgn_pieces.specs.Pieces.{known_pieces}
use Rattle.verify_options.specs.declared.options.Strictness.{Strictness}
use Rattle.pgn_verifier.specs.declared.fault.VerifyFault.{VerifyFault}
use Rattle.pgn_verifier.specs.declared.fault.VerifyFault.TheVariants.{ReadFailed, WriteFailed, NoMemory, InputTooLong}
use Rattle.verify_options.specs.declared.options.VerifyOptions.{VerifyOptions}
use Rattle.pgn_verifier.specs.declared.tally.Verified.{Verified}
use Rattle.pgn_verifier.specs.Reports.{Placed, AreReportsIn, report_lines, counts_line, counts_of, verified}

-- the reports on these pieces, in order. The number is the first piece's offset in the input; each other begins where
-- the one before ends. `strict`: which faults are looked for
pub data AreCollectionReports (strict : Strictness) : ℕ → List (List ℕ) → List Placed → Type 0 where
  no_piece : {offset : ℕ} → AreCollectionReports strict offset [] []
  next_piece : {offset : ℕ} {piece : List ℕ} {pieces : List (List ℕ)} (reports : List Placed) {more : List Placed}
      → AreReportsIn strict offset piece reports → AreCollectionReports strict (offset + length piece) pieces more
      → AreCollectionReports strict offset (piece ∷ pieces) (reports ++ more)

-- what was read (`i`) and written (`o`), by the result (third argument). `text`: all that is to be written for what was
-- read; `expected`: the result if nothing fails
abbrev pub CollectionEnds : List ℕ → Verified → Result Verified VerifyFault → FromInput → ToOutput → Type 0
-- the whole input was read, and all of `text` written and flushed
CollectionEnds text expected (Ok summary) i o = IsWhole i × (o ≡ all_of text) × (summary ≡ expected)
-- a write or the flush failed, and no read. A beginning of `text`, maybe nothing or all, was written, nothing flushed
CollectionEnds text expected (Err WriteFailed) i o = (i.failed ≡ false) × BreaksOffIn nothing text o
-- a read failed before the input's end. Here and below all of `text` was written, nothing flushed
CollectionEnds text expected (Err ReadFailed) i o = (i.ended ≡ false) × (i.failed ≡ true) × (o ≡ all_unflushed text)
-- memory ran out before the input's end; no read failed
CollectionEnds text expected (Err NoMemory) i o = (i.ended ≡ false) × (i.failed ≡ false) × (o ≡ all_unflushed text)
-- at least 2^63 - 2^16 bytes were read without the input's end; no read failed
CollectionEnds text expected (Err InputTooLong) i o =
    (i.ended ≡ false) × (i.failed ≡ false) × (2 ^ 63 ≤ length i.text + 2 ^ 16) × (o ≡ all_unflushed text)

-- what verifying a collection reads (`i`) and writes (`o`), by its result. To be written are the lines of the reports
-- on its pieces, numbered from 1, and after the input's end the line of counts. If the end wasn't reached, the last
-- piece, which may continue, is left out (`known_pieces`)
abbrev pub VerifiesCollection : VerifyOptions → Result Verified VerifyFault → FromInput → ToOutput → Type 0
VerifiesCollection options result i o = (reports : List Placed)
    × AreCollectionReports options.strict 0 (known_pieces i.ended i.text) reports
    × CollectionEnds (report_lines options i.text 1 reports
    ++ (if i.ended then counts_line (counts_of reports) else [])) (verified (counts_of reports)) result i o
