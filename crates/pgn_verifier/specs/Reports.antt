-- The reports on the games of a text and of a collection's pieces, their lines and their counts.
use Rattle.std.specs.Prelude.{◌≡◌, ℕ, ◌+◌, ◌==◌, ◌&&◌, nat_le, nat_lt, Bool, true, false, not, if◌then◌else◌, List, [], ◌∷◌, ◌++◌, length, map, take, drop, codes, decimal, is_some, Option, Some, None, Ok, Err}
use Rattle.std.specs.List.{count_by, prefix_len, sum_by}
use Rattle.std.specs.Bool.{MatchBool}
use Rattle.std.specs.Option.{unwrap_or, option_map_or}
use Rattle.byte_devices.specs.Bytes.{new_line, shown_byte, after_byte_order_mark}
use Rattle.chess_game.specs.Game.{State}
use Rattle.chess_game.specs.Results.{outcome_text}
use Rattle.chess_game.specs.declared.results.Outcome.{Outcome}
use Rattle.chess_pgn.specs.GameEnds.{game_end}
use Rattle.chess_pgn.specs.GameRead.{ending}
use Rattle.pgn_tokens.specs.LastTags.{last_tag, tag_section}
use Rattle.pgn_tokens.specs.Tokens.{Token, is_white_space}
use Rattle.chess_pgn.specs.declared.read.PgnEnd.{PgnEnd}
use Rattle.chess_pgn.specs.declared.read.PgnFaultKind.TheVariants.{TooLong}
use Rattle.pgn_writer.specs.declared.termination.Termination.{Termination}
use Rattle.pgn_writer.specs.Terminations.{termination_text}
use Rattle.pgn_pieces.specs.declared.pieces.TheConstants.{PIECE_LEN}
use Rattle.verify_options.specs.declared.options.Strictness.{Strictness}
use Rattle.pgn_verifier.specs.Explanations.{IsReason, shown, wrong_part, explanation, explanation_line}
use Rattle.pgn_verifier.specs.GameFaults.{IsJudged, fault_name}
use Rattle.pgn_verifier.specs.declared.game_fault.FaultKind.TheVariants.{Pgn}
use Rattle.pgn_verifier.specs.declared.game_fault.GameFault.{GameFault}
use Rattle.verify_options.specs.declared.options.VerifyOptions.{VerifyOptions}
use Rattle.pgn_verifier.specs.declared.tally.Tally.{Tally}
use Rattle.pgn_verifier.specs.declared.tally.Verified.{Verified}
use Rattle.pgn_verifier.specs.declared.tally.Verified.TheVariants.{EachGame, FaultReported}

-- ---- a report

-- a report on a game, or on a piece that is too long
pub data Report : Type 0 where
  -- a game without a fault: its half-moves, the outcome of its termination marker, and the value of its last tag
  -- Termination (`None` if missing or not one of the standard's)
  Game : (plies : ℕ) (outcome : Outcome) (termination : Option Termination) → Report
  -- a fault, with its offset in the input. `names`: the game's players, event and date, empty for a piece that is too
  -- long; `wrong_at`, `part`: the wrong part's offset in the input, and what is shown of it; `why`: what else explains
  -- the fault; `is_unread`: whether to say that from the fault's byte on the text isn't read
  Faulty : (fault : GameFault) (names : List ℕ) (wrong_at : ℕ) (part why : List ℕ) (is_unread : Bool) → Report

-- a report and its span: the input's bytes from the offset `begin` on, before the offset `end`
pub record Placed : Type 0 where
  pub begin : ℕ
  pub end : ℕ
  pub report : Report

-- a report with this span
abbrev pub spanning : (begin end : ℕ) → Report → Placed
spanning begin end report = record { begin = begin; end = end; report = report }

-- where the next game from the offset `at` on begins: after a byte order mark (only if `at` is 0), then white space
abbrev pub game_begin : List ℕ → ℕ → ℕ
game_begin text at = let first = after_byte_order_mark text at in first + prefix_len is_white_space (drop first text)

-- the value of a game's last tag with this name as a line shows it: its first 40 bytes, `?` for each that isn't
-- printable ASCII; `?` alone without such a tag
abbrev pub shown_tag : List (ℕ × Token) → List ℕ → List ℕ
shown_tag tokens name =
    option_map_or (λ tag. map shown_byte (take 40 tag.0)) (last_tag name (tag_section tokens)) (codes "?")

-- what names a game in a line: ` | White - Black, Event Date`, with its last values of these tags
abbrev pub names_of : List (ℕ × Token) → List ℕ
names_of tokens = codes " | " ++ (shown_tag tokens (codes "White") ++ (codes " - " ++ (shown_tag tokens (codes "Black")
    ++ (codes ", " ++ (shown_tag tokens (codes "Event") ++ (codes " " ++ shown_tag tokens (codes "Date")))))))

-- ---- the reports on the games of a text

-- the reports on the games of `text` from an offset (the number) on. The text begins at the input's offset
-- `start`; reports have offsets in the input. `strict`: which faults are looked for; `goes_on`: whether the text is
-- read on after a fault
pub data AreReports (goes_on : Bool) (strict : Strictness) (start : ℕ) (text : List ℕ) : ℕ → List Placed → Type 0 where
  -- no game comes from `at` on
  none_left : {at : ℕ} {s : State} → IsJudged strict text at s (Ok None) → AreReports goes_on strict start text at []
  -- the next game has no fault; the other reports are on the games after it
  next_game : {at : ℕ} {s : State} {end : PgnEnd} {reports : List Placed} → IsJudged strict text at s (Ok (Some end))
      → AreReports goes_on strict start text end.offset reports
      → AreReports goes_on strict start text at (spanning (start + game_begin text at) (start + end.offset)
      (Game (length s.moves) end.outcome end.termination) ∷ reports)
  -- the next game has a fault: `part` is the wrong part, `reason` why, `next` where the game ends (`None` if no end is
  -- found, or if not `goes_on`). The span ends at `next`, or for `None` at the text's end, and reading goes on there.
  -- If `goes_on`, but no end is found, the report says that the text isn't read from the fault's byte on, unless the
  -- fault is at the text's end
  next_fault : {at : ℕ} {s : State} {fault : GameFault} {reports : List Placed} (part : ℕ × List ℕ)
      (reason : Option (List ℕ)) (next : Option ℕ) (game : IsJudged strict text at s (Err fault))
      → part ≡ wrong_part fault.kind text (game_begin text at) fault.offset
      → IsReason fault.kind (drop fault.offset text) (ending strict.draws_of_2014 s) reason
      → next ≡ (if goes_on then game_end (length text) game.tokens else None)
      → AreReports goes_on strict start text (unwrap_or next (length text)) reports
      → AreReports goes_on strict start text at (spanning (start + game_begin text at)
      (start + unwrap_or next (length text)) (Faulty (record fault { offset = start + fault.offset })
      (names_of game.tokens) (start + part.0) part.1 (explanation s fault.kind reason)
      (goes_on && not (is_some next) && nat_lt fault.offset (length text))) ∷ reports)

-- ---- the reports on the games of pieces

-- the reports on a piece that begins at this offset of the input, read as a text of its own, also after faults
-- (`true`). One of more than 16,777,216 bytes (`PIECE_LEN`) isn't read: its only report is a fault at its first byte
abbrev pub AreReportsIn : Strictness → ℕ → List ℕ → List Placed → Type 0
AreReportsIn strict offset piece reports =
    MatchBool (nat_le (length piece) PIECE_LEN) (AreReports true strict offset piece 0 reports)
    (reports ≡ spanning offset (offset + length piece)
    (Faulty (record { kind = Pgn TooLong; offset = offset }) [] offset (shown piece) [] true) ∷ [])

-- ---- their lines

-- the line of a report with this number and text: `game 2: illegal move at byte 39`
unfoldable pub report_line : ℕ → List ℕ → List ℕ
report_line number text = codes "game " ++ (decimal number ++ (codes ": " ++ (text ++ new_line ∷ [])))

-- what a report's line says of its span, if `options.spans`, such as `, bytes 61 to 120`: from the byte 61 on, before
-- 120
abbrev pub span_text : VerifyOptions → Placed → List ℕ
span_text options p =
    if options.spans then codes ", bytes " ++ (decimal p.begin ++ (codes " to " ++ decimal p.end)) else []

-- what is written of `placed`, whose report is also the last argument. `input`: all that was read; `number`: the
-- report's number
abbrev pub written_line : VerifyOptions → List ℕ → ℕ → Placed → Report → List ℕ
-- a game's line, such as `game 3: 4 half-moves, 0-1, time forfeit`, with its `span_text`; nothing if `options.quiet`
written_line options input number placed (Game plies outcome termination) =
    if options.quiet then [] else report_line number (decimal plies ++ (codes " half-moves, " ++ (outcome_text outcome
    ++ (option_map_or (λ t. codes ", " ++ termination_text t) termination [] ++ span_text options placed))))
-- a fault's line, such as `game 2: illegal move at byte 39`, with its `span_text` and, if `options.names`, what names
-- the game. If `options.explain`, a line follows that explains it; if `is_unread`, it ends with the bytes not read, as
-- ` | bytes 151 to 606 not read`: from the byte 151 on, before 606
written_line options input number placed (Faulty fault names wrong_at part why is_unread) =
    report_line number (fault_name fault.kind ++ (codes " at byte " ++ (decimal fault.offset
    ++ (span_text options placed ++ (if options.names then names else [])))))
    ++ (if options.explain then explanation_line input wrong_at (part ++ (why ++ (if is_unread
    then codes " | bytes " ++ (decimal fault.offset ++ (codes " to " ++ (decimal placed.end ++ codes " not read")))
    else []))) else [])

-- the lines of these reports, numbered from `number` on; one that `options.quiet` leaves out has a number too. `input`:
-- all that was read
abbrev pub report_lines : VerifyOptions → List ℕ → ℕ → List Placed → List ℕ
report_lines options input number [] = []
report_lines options input number (placed ∷ rest) =
    written_line options input number placed placed.report ++ report_lines options input (number + 1) rest

-- ---- the counts

-- whether a report is on a game without a fault
abbrev pub is_game : Report → Bool
is_game (Game plies outcome termination) = true
is_game (Faulty fault names wrong_at part why is_unread) = false

-- a report's half-moves, 0 for a fault
abbrev pub plies_of : Report → ℕ
plies_of (Game plies outcome termination) = plies
plies_of (Faulty fault names wrong_at part why is_unread) = 0

-- the counts of these reports, as `counts_line` writes them
abbrev pub counts_of : List Placed → Tally
counts_of reports = record {
  games = count_by (λ placed. is_game placed.report) reports;
  half_moves = sum_by (λ placed. plies_of placed.report) reports;
  faults = count_by (λ placed. not (is_game placed.report)) reports;
}

-- how verifying ended, with a fault or not, by the counts of all reports
abbrev pub verified : Tally → Verified
verified t = if t.faults == 0 then EachGame else FaultReported

-- the last line for a collection, `games 2 half-moves 6 faults 1`: games without a fault, their half-moves, and faults
unfoldable pub counts_line : Tally → List ℕ
counts_line t = codes "games " ++ (decimal t.games ++ (codes " half-moves " ++ (decimal t.half_moves
    ++ (codes " faults " ++ (decimal t.faults ++ new_line ∷ [])))))
