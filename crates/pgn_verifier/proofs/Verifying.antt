-- What `verify` and `verify_collection` did to input and output together, as their contracts say it (`Ran`), put
-- together from what was read and what was written. A lemma for each way to end: of a text not_all_read, not_all_exit,
-- no_memory, text_verified, text_broke_off; of a collection collection_verified, collection_broke_off, reading_stopped.
use Rattle.std.proofs.Common.{◌≡◌, ℕ, Bool, true, false, List, Result, Ok, Err, IsErr, refl, sym, subst, append-nil, IfErr}
use Rattle.byte_devices.specs.Devices.{InputState, OutputState, Took, Sent, CutShort}
use Rattle.byte_devices.specs.Transfers.{InputGave, Ran, nothing, all_of, all_unflushed}
use Rattle.byte_devices.proofs.shared.Transfers.{came, broke, took_nothing, took_all, took_unflushed, took_some}
use Rattle.pgn_pieces.specs.Pieces.{known_pieces, HasRead, GaveThenFailed, IsCause}
use Rattle.pgn_pieces.specs.declared.pieces.PieceFault.{PieceFault}
use Rattle.pgn_pieces.specs.declared.pieces.PieceFault.TheVariants as piece
use Rattle.verify_options.specs.declared.options.VerifyOptions.{VerifyOptions}
use Rattle.pgn_verifier.specs.{declared.fault.VerifyFault.VerifyFault, declared.tally.Verified.Verified, Verify.Verifies, Collection.AreCollectionReports, Collection.VerifiesCollection, laws.Reported.placed_on, laws.Reported.collection_placed, Faults.of_piece}
use Rattle.pgn_verifier.specs.declared.fault.VerifyFault.TheVariants.{ReadFailed, WriteFailed, NoMemory, InputTooLong}
use Rattle.pgn_verifier.specs.Reports.{Placed, counts_of, verified}
use Rattle.pgn_verifier.proofs.shared.ReportsAre.{are_reports, are_collection_reports}
use Rattle.pgn_verifier.specs.ties.OnTheWay.{IsAll, IsNotAll, WritesText, text_lines, collection_lines, collection_written}

-- what was read, in the form of a transfer; then the same if the last read failed
gave : (r r' : InputState) (text : List ℕ) (ended : Bool) → HasRead ended r r' text
    → InputGave r r' (came r' text ended false)
gave r r' text ended h = record {
  bytes = h.bytes;
  early = refl;
  at_end = h.at_end;
  ends = h.ends;
  failures = h.failures;
  silences = h.silences;
}

gave_before_a_fault : (r r' : InputState) (text : List ℕ) → GaveThenFailed r r' text
    → InputGave r r' (came r' text false true)
gave_before_a_fault r r' text h = record {
  bytes = h.bytes;
  early = refl;
  at_end = λ e. cc;
  ends = h.ends;
  failures = h.failures;
  silences = h.silences;
}

-- ---- a text

-- not all of the input was read, so nothing was written; the fault says why
not_all_read : (options : VerifyOptions) (r r' : InputState) (w : OutputState) (fault : VerifyFault)
    → IsNotAll r r' fault
    → Ran (Verifies options (Err fault)) (record { input = r; output = w }) (record { input = r'; output = w })
not_all_read options r r' w ReadFailed (text, broke_off) = (
  came r' text false true,
  nothing,
  gave_before_a_fault r r' text broke_off,
  took_nothing w,
  (refl, (refl, refl, refl)),
)
not_all_read options r r' w WriteFailed none = absurd none
not_all_read options r r' w NoMemory (text, read) =
    (came r' text false false, nothing, gave r r' text false read, took_nothing w, (refl, (refl, (λ e. cc), refl)))
not_all_read options r r' w InputTooLong (text, read, long) =
    (came r' text false false, nothing, gave r r' text false read, took_nothing w, (refl, (refl, refl, long, refl)))

-- the same at the exit of a `?`
pub not_all_exit : (options : VerifyOptions) (r r' : InputState) (w : OutputState)
    (result : Result Verified VerifyFault) → IsErr result → IfErr result (λ fault. IsNotAll r r' fault)
    → Ran (Verifies options result) (record { input = r; output = w }) (record { input = r'; output = w })
not_all_exit options r r' w (Ok verdict) is h = cc
not_all_exit options r r' w (Err fault) is h = not_all_read options r r' w fault h

-- all was read, but there was no memory for the board's tables or the game
pub no_memory : (options : VerifyOptions) (r r' : InputState) (w : OutputState) (text : List ℕ) → IsAll r r' text
    → Ran (Verifies options (Err NoMemory)) (record { input = r; output = w }) (record { input = r'; output = w })
no_memory options r r' w text (read, few) =
    (came r' text true false, nothing, gave r r' text true read, took_nothing w, (refl, (refl, (λ e. few), refl)))

-- the lines of all games were written
pub text_verified : (E : Type 0) (options : VerifyOptions) (r r' : InputState) (w w' : OutputState) (text : List ℕ)
    (verdict : Verified) → IsAll r r' text → WritesText {E = E} options text w w' (Ok verdict)
    → Ran (Verifies options (Ok verdict)) (record { input = r; output = w }) (record { input = r'; output = w' })
text_verified E options r r' w w' text verdict (read, few) (is, sent) = (
  came r' text true false,
  all_of (text_lines options text),
  gave r r' text true read,
  took_all w w' (text_lines options text) sent,
  (refl, ((refl, refl), few, (placed_on options.strict 0 text, are_reports options.strict 0 text, refl, is))),
)

-- all was read, and a write or the flush failed
pub text_broke_off : (options : VerifyOptions) (r r' : InputState) (w w' : OutputState) (text : List ℕ)
    → IsAll r r' text → CutShort w w' (text_lines options text)
    → Ran (Verifies options (Err WriteFailed)) (record { input = r; output = w }) (record { input = r'; output = w' })
text_broke_off options r r' w w' text (read, few) (start, begins, failed) = (
  came r' text true false,
  broke nothing start,
  gave r r' text true read,
  took_some w w' start failed,
  (
    refl,
    ((refl, refl), few, (placed_on options.strict 0 text, are_reports options.strict 0 text, (start, begins, refl))),
  ),
)

-- ---- a collection

-- all pieces were read, and their lines and the counts were written and flushed
pub collection_verified : (options : VerifyOptions) (r r' : InputState) (w w' : OutputState) (text : List ℕ)
    (verdict : Verified) → HasRead true r r' text → Sent w w' (collection_written options true text)
    → verdict ≡ verified (counts_of (collection_placed options.strict true text))
    → Ran (VerifiesCollection options (Ok verdict)) (record { input = r; output = w })
    (record { input = r'; output = w' })
collection_verified options r r' w w' text verdict read sent is = (
  came r' text true false,
  all_of (collection_written options true text),
  gave r r' text true read,
  took_all w w' (collection_written options true text) sent,
  (
    refl,
    (
      collection_placed options.strict true text,
      are_collection_reports options.strict true text,
      ((refl, refl), refl, is),
    ),
  ),
)

-- a write or the flush failed
pub collection_broke_off : (options : VerifyOptions) (r r' : InputState) (w w' : OutputState) (ended : Bool)
    (text : List ℕ) → HasRead ended r r' text → CutShort w w' (collection_written options ended text)
    → Ran (VerifiesCollection options (Err WriteFailed)) (record { input = r; output = w })
    (record { input = r'; output = w' })
collection_broke_off options r r' w w' ended text read (start, begins, failed) = (
  came r' text ended false,
  broke nothing start,
  gave r r' text ended read,
  took_some w w' start failed,
  (
    refl,
    (
      collection_placed options.strict ended text,
      are_collection_reports options.strict ended text,
      (refl, (start, begins, refl)),
    ),
  ),
)

-- the lines of the pieces whose end was read were written before reading stopped
pub reading_stopped : (options : VerifyOptions) (r r' : InputState) (w w' : OutputState) (text : List ℕ)
    (fault : PieceFault) → IsCause r r' text fault → Took w w' (collection_lines options false text)
    → Ran (VerifiesCollection options (Err (of_piece fault))) (record { input = r; output = w })
    (record { input = r'; output = w' })
reading_stopped options r r' w w' text fault cause took = by_fault fault cause
  where
    written : List ℕ
    written = collection_written options false text

    part : Took w w' written
    part = subst (Took w w') (sym (append-nil (collection_lines options false text))) took

    reports : List Placed
    reports = collection_placed options.strict false text

    are : AreCollectionReports options.strict 0 (known_pieces false text) reports
    are = are_collection_reports options.strict false text

    by_fault : (fault : PieceFault) → IsCause r r' text fault
        → Ran (VerifiesCollection options (Err (of_piece fault))) (record { input = r; output = w })
        (record { input = r'; output = w' })
    by_fault piece.ReadFailed broke_off = (
      came r' text false true,
      all_unflushed written,
      gave_before_a_fault r r' text broke_off,
      took_unflushed w w' written part,
      (refl, (reports, are, (refl, refl, refl))),
    )
    by_fault piece.NoMemory read = (
      came r' text false false,
      all_unflushed written,
      gave r r' text false read,
      took_unflushed w w' written part,
      (refl, (reports, are, (refl, refl, refl))),
    )
    by_fault piece.InputTooLong (read, many) = (
      came r' text false false,
      all_unflushed written,
      gave r r' text false read,
      took_unflushed w w' written part,
      (refl, (reports, are, (refl, refl, many, refl))),
    )
