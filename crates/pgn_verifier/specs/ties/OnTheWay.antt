-- What verifying has done on the way: of a text that is read as a whole, and of pieces before their counts are written.
use Rattle.std.specs.Prelude.{◌≡◌, ◌<◌, ℕ, true, false, List, [], ◌∷◌, length, take, drop, codes, decimal, Option, Some, None, Result, Ok, Err, ◌≤◌, ◌+◌, ◌++◌, if◌then◌else◌, Bool}
use Rattle.std.specs.List.{flat_map, fold}
use Rattle.std.specs.Option.{option_map_or}
use Rattle.chess_pgn.specs.declared.read.PgnEnd.{PgnEnd}
use Rattle.chess_pgn.specs.declared.read.PgnFaultKind.TheVariants.{TooLong}
use Rattle.verify_options.specs.declared.options.Strictness.{Strictness}
use Rattle.pgn_verifier.specs.Explanations.{shown}
use Rattle.pgn_verifier.specs.GameFaults.{fault_name}
use Rattle.chess_game.specs.Results.{outcome_text}
use Rattle.chess_game.specs.declared.results.Outcome.{Outcome}
use Rattle.pgn_writer.specs.Terminations.{termination_text}
use Rattle.pgn_writer.specs.declared.termination.Termination.{Termination}
use Rattle.pgn_verifier.specs.declared.game_fault.FaultKind.TheVariants.{Pgn}
use Rattle.byte_devices.specs.Devices.{InputState, OutputState, Took, Sent, CutShort}
use Rattle.byte_devices.specs.Transfers.{Ran}
use Rattle.pgn_pieces.specs.Pieces.{HasRead, GaveThenFailed}
use Rattle.pgn_pieces.specs.Stream.{PieceSeen}
use Rattle.pgn_pieces.specs.Places.{line_of, column_of}
use Rattle.pgn_pieces.specs.declared.pieces.TheConstants.{PIECE_LEN}
use Rattle.pgn_verifier.specs.declared.fault.VerifyFault.{VerifyFault}
use Rattle.pgn_verifier.specs.declared.fault.VerifyFault.TheVariants.{ReadFailed, WriteFailed, NoMemory, InputTooLong}
use Rattle.pgn_verifier.specs.declared.game_fault.GameFault.{GameFault}
use Rattle.verify_options.specs.declared.options.VerifyOptions.{VerifyOptions}
use Rattle.pgn_verifier.specs.declared.tally.Tally.{Tally}
use Rattle.pgn_verifier.specs.declared.tally.Verified.{Verified}
use Rattle.pgn_verifier.specs.Reports.{Report, Game, Faulty, Placed, counts_of, verified, report_line, report_lines, counts_line}
use Rattle.pgn_verifier.specs.Collection.{VerifiesCollection}
use Rattle.pgn_verifier.specs.declared.judged.Judged.{Judged}
use Rattle.pgn_verifier.specs.laws.Reported.{placed_of, placed_on, collection_placed}
use Rattle.pgn_verifier.specs.declared.label.Span.{Span}
use Rattle.pgn_verifier.specs.declared.start.TextStart.{TextStart}

-- what the code returned of a game, as `judged` reports it: the game's end, without how many half-moves it has
abbrev pub end_seen : Result (Option Judged) GameFault → Result (Option PgnEnd) GameFault
end_seen (Ok None) = Ok None
end_seen (Ok (Some judged)) = Ok (Some judged.end)
end_seen (Err fault) = Err fault

-- between the input's states `r` and `r'` all that was left of it was read: this text, which has at most 16,777,216
-- bytes
abbrev pub IsAll : InputState → InputState → List ℕ → Type 0
IsAll r r' text = HasRead true r r' text × (length text ≤ PIECE_LEN)

-- why not all of the input was read between its states `r` and `r'`: a read failed, memory ran out, or it has more than
-- 16,777,216 bytes
abbrev pub IsNotAll : InputState → InputState → VerifyFault → Type 0
IsNotAll r r' ReadFailed = (text : List ℕ) × GaveThenFailed r r' text
IsNotAll r r' WriteFailed = ⊥
IsNotAll r r' NoMemory = (text : List ℕ) × HasRead false r r' text
IsNotAll r r' InputTooLong = (text : List ℕ) × HasRead false r r' text × (PIECE_LEN < length text)

-- all that is written of a text: the lines of its games up to the first fault, numbered from 1
abbrev pub text_lines : VerifyOptions → List ℕ → List ℕ
text_lines options text = report_lines options text 1 (placed_on options.strict 0 text)

-- between the output's states `w` and `w'` the lines of a text were written and flushed; or a write or the flush
-- failed, and a beginning of them was written
abbrev pub WritesText : {E : Type 0} → VerifyOptions → List ℕ → OutputState → OutputState → Result Verified E → Type 0
WritesText options text w w' (Ok verdict) =
    (verdict ≡ verified (counts_of (placed_on options.strict 0 text))) × Sent w w' (text_lines options text)
WritesText options text w w' (Err e) = CutShort w w' (text_lines options text)

-- the lines that report the games of a collection of which this text was read, numbered from 1. `ended`: the text is
-- all of it; if not, its last piece isn't reported
abbrev pub collection_lines : VerifyOptions → Bool → List ℕ → List ℕ
collection_lines options ended text = report_lines options text 1 (collection_placed options.strict ended text)

-- all that is written of a collection of which this text was read: the lines of its reports, and if the text is all of
-- it (`ended`), the line of counts
abbrev pub collection_written : VerifyOptions → Bool → List ℕ → List ℕ
collection_written options ended text = collection_lines options ended text
    ++ (if ended then counts_line (counts_of (collection_placed options.strict ended text)) else [])

-- between the input's states `r` and `r'`, and the output's `w` and `w'`, the lines of all pieces were written and
-- their reports counted, while the line of counts is still to be written; or verifying failed
abbrev pub WritesCollection : VerifyOptions → InputState → InputState → OutputState → OutputState
    → Result Tally VerifyFault → Type 0
WritesCollection options r r' w w' (Ok tally) =
    (text : List ℕ) × HasRead true r r' text × Took w w' (collection_lines options true text)
    × (tally ≡ counts_of (collection_placed options.strict true text))
WritesCollection options r r' w w' (Err fault) = Ran (VerifiesCollection options (Err fault))
    (record { input = r; output = w }) (record { input = r'; output = w' })

-- the fault with its offset counted from the input's first byte; the game's text begins at the offset `start` there
abbrev pub moved : ℕ → GameFault → GameFault
moved start fault = record fault { offset = start + fault.offset }

-- the report on a piece that is too long, of which only its span and its beginning are known
abbrev pub too_long_seen : PieceSeen → Placed
too_long_seen piece = record {
  begin = piece.offset;
  end = piece.end;
  report = Faulty (record { kind = Pgn TooLong; offset = piece.offset }) [] piece.offset (shown piece.beginning) [] true;
}

-- the reports on the games of this piece, also if it is too long; `strict`: which faults are looked for
abbrev pub reports_seen : Strictness → PieceSeen → List Placed
reports_seen strict piece =
    option_map_or (placed_of true strict piece.offset) piece.bytes (too_long_seen piece ∷ [])

-- what a report's line says of this span, such as `, bytes 61 to 120`; nothing for `None`
abbrev pub span_written : Option Span → List ℕ
span_written None = []
span_written (Some span) = codes ", bytes " ++ (decimal span.begin ++ (codes " to " ++ decimal span.end))

-- the end of a fault's explanation: that this part of the input isn't read, such as ` | bytes 151 to 606 not read`
abbrev pub unread_written : Option Span → List ℕ
unread_written None = []
unread_written (Some span) =
    codes " | bytes " ++ (decimal span.begin ++ (codes " to " ++ (decimal span.end ++ codes " not read")))

-- the line of a game without a fault; `plies` is how many half-moves it has, and `span` the end of the line
abbrev pub game_line : ℕ → ℕ → Outcome → Option Termination → List ℕ → List ℕ
game_line number plies outcome termination span = report_line number (decimal plies ++ (codes " half-moves, "
    ++ (outcome_text outcome ++ (option_map_or (λ t. codes ", " ++ termination_text t) termination [] ++ span))))

-- the line of the fault with this number; `span` and `names` are the end of the line
abbrev pub fault_line : ℕ → GameFault → List ℕ → List ℕ → List ℕ
fault_line number fault span names =
    report_line number (fault_name fault.kind ++ (codes " at byte " ++ (decimal fault.offset ++ (span ++ names))))

-- the reports on the games of these pieces, in order; `strict`: which faults are looked for
abbrev pub reports_of : Strictness → List PieceSeen → List Placed
reports_of strict pieces = flat_map (reports_seen strict) pieces

-- the counts `t` with one report more: it adds a game and its half-moves, or a fault
abbrev pub with_report : Tally → Report → Tally
with_report t (Game plies outcome termination) = record t { games = t.games + 1; half_moves = t.half_moves + plies }
with_report t (Faulty fault names wrong_at part why is_unread) = record t { faults = t.faults + 1 }

-- the counts `t` with these reports added: games, their half-moves, and faults
abbrev pub counted : Tally → List Placed → Tally
counted t reports = fold (λ t placed. with_report t placed.report) t reports

-- the number of the next game, where `before` counts the reports so far, with and without faults
abbrev pub next_number : Tally → ℕ
next_number before = before.games + before.faults + 1

-- between the output's states `w` and `w'` the lines of these reports were written, and `after` are the counts `before`
-- with them added; or a write failed, and a beginning of the lines was written. `input`: all that was read
abbrev pub Writes : {E : Type 0} → VerifyOptions → List ℕ → Tally → OutputState → OutputState → Result Tally E
    → List Placed → Type 0
Writes options input before w w' (Ok after) reports =
    Took w w' (report_lines options input (next_number before) reports) × (after ≡ counted before reports)
Writes options input before w w' (Err e) reports =
    CutShort w w' (report_lines options input (next_number before) reports)

-- the text is in the input at the offset `start.offset`, which is the beginning of the line with the number
-- `start.line`
pub record StandsAt (start : TextStart) (input text : List ℕ) : Type 0 where
  pub bytes : take (length text) (drop start.offset input) ≡ text
  pub line : line_of input start.offset ≡ start.line
  pub column : column_of input start.offset ≡ 1

-- if faults are explained, the text is in the input at the offset and line that `start` names (`StandsAt`)
abbrev pub StandsIf : Bool → TextStart → List ℕ → List ℕ → Type 0
StandsIf explain start input text = explain ≡ true → StandsAt start input text

-- the piece (if its bytes are known, so unless it is too long) is in the input at its offset, which is the beginning of
-- the line with this number
pub record PieceStandsAt (number : ℕ) (input : List ℕ) (piece : PieceSeen) : Type 0 where
  pub bytes : (text : List ℕ) → piece.bytes ≡ Some text → take (length text) (drop piece.offset input) ≡ text
  pub line : line_of input piece.offset ≡ number
  pub column : column_of input piece.offset ≡ 1

-- if faults are explained, the piece is in the input at its offset, at the beginning of the line with this number
abbrev pub PieceStandsIf : Bool → ℕ → List ℕ → PieceSeen → Type 0
PieceStandsIf explain number input piece = explain ≡ true → PieceStandsAt number input piece

-- between the counts `before` and `after` a text of `len` bytes was verified: it added at most `len + 1` reports and at
-- most `len` half-moves
pub record GrowsBy (len : ℕ) (before after : Tally) : Type 0 where
  pub reports : after.games + after.faults ≤ before.games + before.faults + len + 1
  pub half_moves : after.half_moves ≤ before.half_moves + len
