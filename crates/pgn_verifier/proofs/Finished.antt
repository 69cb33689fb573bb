-- The ends of `verify` and of a collection. The lines of a text are those of its reports, numbered from 1, and the
-- verdict is by their counts (whole_lines, whole_counted); if the flush fails, they may be cut short (not_flushed). For
-- a collection the counts come last and all is flushed (finished); or that fails (not_finished); or memory ran out
-- before anything was read (not_begun).
use Rattle.std.proofs.Common.{◌≡◌, ℕ, Bool, true, false, List, [], ◌++◌, Ok, Err, refl, ap, subst, ◌∙◌, append-nil}
use Rattle.std.proofs.Math.Seq.{take-length}
use Rattle.byte_devices.specs.Devices.{InputState, OutputState, Took, Sent, CutShort, TookThenFailed}
use Rattle.byte_devices.specs.Transfers.{Ran}
use Rattle.byte_devices.proofs.shared.Devices.{appends_more, took_none, breaks_more, failed_more}
use Rattle.pgn_pieces.specs.Stream.{pieces}
use Rattle.verify_options.specs.declared.options.Strictness.{Strictness}
use Rattle.verify_options.specs.declared.options.VerifyOptions.{VerifyOptions}
use Rattle.pgn_verifier.specs.{declared.tally.Tally.Tally, declared.tally.Verified.Verified, declared.fault.VerifyFault.TheVariants.WriteFailed, declared.fault.VerifyFault.TheVariants.NoMemory, Collection.VerifiesCollection, laws.Reported.placed_on, laws.Reported.collection_placed}
use Rattle.pgn_pieces.specs.declared.pieces.PieceFault.TheVariants as piece
use Rattle.pgn_pieces.proofs.shared.Inputs.{nothing_read}
use Rattle.pgn_verifier.specs.Reports.{report_lines, counts_line, counts_of, verified}
use Rattle.pgn_verifier.specs.ties.OnTheWay.{WritesCollection, StandsIf, next_number, counted, text_lines, collection_lines}
use Rattle.pgn_verifier.proofs.{LinesWritten.all_counted, Verifying.collection_verified, Verifying.collection_broke_off, Verifying.reading_stopped}

-- the counts before the first report
abbrev pub none : Tally
none = record { games = 0; half_moves = 0; faults = 0 }

-- if the flush failed, what was written may be cut short
pub not_flushed : (a b c : OutputState) (text : List ℕ) → Took a b text → TookThenFailed b c [] → CutShort a c text
not_flushed a b c text took failed =
    (text ++ [], ([], append-nil (text ++ []) ∙ append-nil text), failed_more a b c text [] took failed)

-- a text was taken, and then another was taken and flushed: both were sent
sent_more : (a b c : OutputState) (x y : List ℕ) → Took a b x → Sent b c y → Sent a c (x ++ y)
sent_more a b c x y h k = record {
  bytes = appends_more a.known_bytes b.known_bytes c.known_bytes x y h.bytes k.bytes;
  failures = k.failures ∙ h.failures;
  flushed = k.flushed;
}

-- a text that is read as a whole begins where the input begins, in line 1
pub whole_there : (explain : Bool) (text : List ℕ)
    → StandsIf explain (record { offset = 0; line = 1; goes_on = false }) text text
whole_there explain text h = record { bytes = take-length text; line = refl; column = refl }

-- the lines of its reports, numbered from 1, are those of the definition
pub whole_lines : (options : VerifyOptions) (t : Tally) (text : List ℕ) → t ≡ none
    → report_lines options text (next_number t) (placed_on options.strict 0 text) ≡ text_lines options text
whole_lines options t text is =
    ap (λ (u : Tally). report_lines options text (next_number u) (placed_on options.strict 0 text)) is

-- and so is the answer by its counts
pub whole_counted : (strict : Strictness) (t u : Tally) (text : List ℕ) (v : Verified) → t ≡ none
    → u ≡ counted t (placed_on strict 0 text) → v ≡ verified u → v ≡ verified (counts_of (placed_on strict 0 text))
whole_counted strict t u text v is h e =
    e ∙ ap verified (h ∙ ap (λ (x : Tally). counted x (placed_on strict 0 text)) is
    ∙ all_counted (placed_on strict 0 text))

-- ---- a collection

-- the lines of all pieces were written, and the counts were sent: `Ok`
pub finished : (options : VerifyOptions) (r r' : InputState) (w w' w'' : OutputState) (t : Tally) (v : Verified)
    → WritesCollection options r r' w w' (Ok t) → Sent w' w'' (counts_line t) → v ≡ verified t
    → Ran (VerifiesCollection options (Ok v)) (record { input = r; output = w })
    (record { input = r'; output = w'' })
finished options r r' w w' w'' t v (text, read, took, is) sent h =
    let counts = counts_line (counts_of (collection_placed options.strict true text)) in
    collection_verified options r r' w w'' text v read
    (sent_more w w' w'' (collection_lines options true text) counts took
    (subst (λ (u : Tally). Sent w' w'' (counts_line u)) is sent)) (h ∙ ap verified is)

-- writing the counts failed: `Err`
pub not_finished : (options : VerifyOptions) (r r' : InputState) (w w' w'' : OutputState) (t : Tally)
    → WritesCollection options r r' w w' (Ok t) → CutShort w' w'' (counts_line t)
    → Ran (VerifiesCollection options (Err WriteFailed)) (record { input = r; output = w })
    (record { input = r'; output = w'' })
not_finished options r r' w w' w'' t (text, read, took, is) broke =
    let counts = counts_line (counts_of (collection_placed options.strict true text)) in
    collection_broke_off options r r' w w'' true text read
    (breaks_more w w' w'' (collection_lines options true text) counts took
    (subst (λ (u : Tally). CutShort w' w'' (counts_line u)) is broke))

-- of a collection of which nothing was read no line is written
nothing_written : (options : VerifyOptions) (w : OutputState) → Took w w (collection_lines options false [])
unfolding pieces
nothing_written options w = took_none w

-- without memory nothing was read and nothing written
pub not_begun : (options : VerifyOptions) (r : InputState) (w : OutputState)
    → Ran (VerifiesCollection options (Err NoMemory)) (record { input = r; output = w })
    (record { input = r; output = w })
not_begun options r w =
    reading_stopped options r r w w [] piece.NoMemory (nothing_read r) (nothing_written options w)
