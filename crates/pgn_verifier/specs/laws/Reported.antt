-- What is reported of the games of texts, as functions: a text is cut into tokens one after another, and its games are
-- read one after another. The law `reports_are_the_only_ones` says that just these are the reports. The reports are
-- defined first without their spans, then with them.
use Rattle.std.specs.Prelude.{ℕ, zero, suc, ◌+◌, Bool, true, false, ◌&&◌, not, nat_le, nat_lt, if◌then◌else◌, List, [], ◌∷◌, ◌++◌, length, map, drop, is_some, Option, Some, None, Result, Ok, Err}
use Rattle.std.specs.List.{flat_map}
use Rattle.std.specs.Option.{option_map_or, unwrap_or}
use Rattle.chess_game.specs.Game.{State}
use Rattle.chess_game.specs.declared.game.TheConstants.{MOST_MOVES}
use Rattle.chess_game.specs.declared.results.Outcome.{Outcome}
use Rattle.chess_pgn.specs.GameEnds.{game_end}
use Rattle.chess_pgn.specs.GameRead.{GameRead, ending, pgn_read}
use Rattle.chess_pgn.specs.ResultTags.{result_tag_of}
use Rattle.chess_pgn.specs.UnknownVariants.{unknown_variant_in}
use Rattle.pgn_tokens.specs.Tokens.{tokens_from}
use Rattle.byte_devices.specs.Bytes.{after_byte_order_mark}
use Rattle.chess_pgn.specs.declared.read.PgnEnd.{PgnEnd}
use Rattle.chess_pgn.specs.declared.read.PgnFaultKind.TheVariants.{TooLong, NoResult}
use Rattle.pgn_writer.specs.declared.termination.Termination.{Termination}
use Rattle.verify_options.specs.declared.options.Strictness.{Strictness}
use Rattle.pgn_verifier.specs.declared.game_fault.FaultKind.{FaultKind}
use Rattle.pgn_verifier.specs.declared.game_fault.FaultKind.TheVariants.{Pgn}
use Rattle.pgn_pieces.specs.Stream.{Piece, pieces}
use Rattle.pgn_pieces.specs.declared.pieces.TheConstants.{PIECE_LEN}
use Rattle.pgn_verifier.specs.Explanations.{explanation, shown, wrong_part}
use Rattle.pgn_verifier.specs.GameFaults.{judged}
use Rattle.pgn_verifier.specs.Reports.{Report, Game, Faulty, Placed, game_begin, names_of}
use Rattle.pgn_verifier.specs.shared.Contradictions.{variation_in}
use Rattle.pgn_verifier.specs.declared.game_fault.GameFault.{GameFault}
use Rattle.pgn_verifier.specs.laws.Reasons.{reason}

-- what is read of a text from its offset `at` on: a game of at most 20,000 half-moves, none, or a fault. `draws`:
-- whether the draws of 2014 (fivefold repetition and 75 moves) end a game
abbrev pub read_at : Bool → List ℕ → ℕ → GameRead
read_at draws = pgn_read draws MOST_MOVES

-- what is reported of the game from the offset `at` on, from what was read of it (`read`): its end, its fault, or
-- `None` if the text has no more games. `strict`: which faults are looked for
abbrev pub judged_of : Strictness → List ℕ → ℕ → GameRead → Result (Option PgnEnd) GameFault
judged_of strict text at read =
    let tokens = tokens_from text (after_byte_order_mark text at) in
    judged strict (variation_in tokens_from text at read.state.start) (unknown_variant_in (length text) tokens)
    (result_tag_of (length text) tokens) (ending strict.draws_of_2014 read.state) read.answer

-- what is reported of the game from the offset `at` of a text on: its end, its fault, or `None` if there is none.
-- `strict`: which faults are looked for
abbrev pub judged_at : Strictness → List ℕ → ℕ → Result (Option PgnEnd) GameFault
judged_at strict text at = judged_of strict text at (read_at strict.draws_of_2014 text at)

-- where reading goes on after the game from the offset `at` on, if that has a fault: where the game ends; `None` if no
-- end is found, or reading isn't to go on after faults (`goes_on`)
abbrev pub next_at : Bool → List ℕ → ℕ → Option ℕ
next_at goes_on text at =
    if goes_on then game_end (length text) (tokens_from text (after_byte_order_mark text at)) else None

-- ---- without their spans

-- a report without its span and its game's names, and without what depends on where the game begins or on what isn't
-- read
pub data Plain : Type 0 where
  PlainGame : (plies : ℕ) (outcome : Outcome) (termination : Option Termination) → Plain
  PlainFault : (fault : GameFault) (wrong_at : ℕ) (explanation : List ℕ) → Plain

-- whether a fault of this kind is explained where its game begins: only a missing result
abbrev pub is_at_begin : FaultKind → Bool
is_at_begin (Pgn NoResult) = true
is_at_begin _ = false

-- the report without its span. A missing result is explained here at the fault's own byte, not where its game begins,
-- and without the game's first word
abbrev pub plain_of : Report → Plain
plain_of (Game plies outcome termination) = PlainGame plies outcome termination
plain_of (Faulty fault names wrong_at part why is_unread) =
    PlainFault fault (if is_at_begin fault.kind then fault.offset else wrong_at)
    ((if is_at_begin fault.kind then [] else part) ++ why)

-- the reports without their spans (`Plain`)
abbrev pub without_spans : List Placed → List Plain
without_spans reports = map (λ placed. plain_of placed.report) reports

-- the report on a fault of a text, without its span; `s` is the game as far as it was read. The text begins at the
-- offset `start` of the input; `draws`: whether the draws of 2014 end a game
abbrev pub plain_fault : Bool → ℕ → List ℕ → GameFault → State → Plain
plain_fault draws start text fault s = PlainFault (record fault { offset = start + fault.offset })
    (start + (wrong_part fault.kind text fault.offset fault.offset).0)
    ((if is_at_begin fault.kind then [] else (wrong_part fault.kind text fault.offset fault.offset).1)
    ++ explanation s fault.kind (reason fault.kind (drop fault.offset text) (ending draws s)))

-- the report on a game of a text, by how it was judged (the argument before `s`), and then those on the games after it:
-- `later` gives them from an offset on, which is that of the game's end, or after a fault `next` (if `None`, there are
-- none). `s`: the game as far as it was read. The text begins at the offset `start` of the input; `draws`: whether the
-- draws of 2014 end a game
abbrev pub report_then : Bool → ℕ → List ℕ → Option ℕ → Result (Option PgnEnd) GameFault → State → (ℕ → List Plain)
    → List Plain
report_then draws start text next (Ok None) s later = []
report_then draws start text next (Ok (Some end)) s later =
    PlainGame (length s.moves) end.outcome end.termination ∷ later end.offset
report_then draws start text next (Err fault) s later =
    plain_fault draws start text fault s ∷ option_map_or later next []

-- the reports on at most n games (the fourth argument) of a text from its offset `at` on, up to its first fault, or if
-- `goes_on` also after faults. The text begins at the offset `start` of the input; `strict`: which faults are looked
-- for
unfoldable pub games_from : Bool → Strictness → ℕ → ℕ → List ℕ → ℕ → List Plain
games_from goes_on strict start zero text at = []
games_from goes_on strict start (suc n) text at =
    report_then strict.draws_of_2014 start text (next_at goes_on text at) (judged_at strict text at)
    (read_at strict.draws_of_2014 text at).state
    (λ next. games_from goes_on strict start n text next)

-- the reports of `games_from` up to the first fault
abbrev pub reports_from : Strictness → ℕ → ℕ → List ℕ → ℕ → List Plain
reports_from = games_from false

-- the reports on all games of a text, up to its first fault, or if `goes_on` also after faults (`start` and `strict` as
-- in `games_from`). Each game has at least one byte, so `length text + 1` games are enough
abbrev pub games_of : Bool → Strictness → ℕ → List ℕ → List Plain
games_of goes_on strict start text = games_from goes_on strict start (length text + 1) text 0

-- the reports on all games of a text up to its first fault. The text begins at the offset `start` of the input;
-- `strict`: which faults are looked for
abbrev pub reports_on : Strictness → ℕ → List ℕ → List Plain
reports_on = games_of false

-- the report on a piece that is too long: a fault at its first byte
abbrev pub too_long_report : Piece → Plain
too_long_report piece =
    PlainFault (record { kind = Pgn TooLong; offset = piece.offset }) piece.offset (shown piece.bytes)

-- the reports on the games of a piece, which is read as a text of its own; a piece that is too long has one report.
-- `strict`: which faults are looked for
abbrev pub reports_in : Strictness → Piece → List Plain
reports_in strict piece = if nat_le (length piece.bytes) PIECE_LEN then games_of true strict piece.offset piece.bytes
    else too_long_report piece ∷ []

-- the reports on the games of a collection of which this text was read: on all its pieces, if the text is all of it
-- (`ended`), otherwise on all but the last. `strict`: which faults are looked for
abbrev pub collection_reports : Strictness → Bool → List ℕ → List Plain
collection_reports strict ended text = flat_map (reports_in strict) (pieces ended 0 text)

-- ---- with their spans

-- what names the game from the offset `at` of a text on in a line: ` | White - Black, Event Date`
abbrev pub names_at : List ℕ → ℕ → List ℕ
names_at text at = names_of (tokens_from text (after_byte_order_mark text at))

-- the report on the game from the offset `at` of a text on, with its span, if it has no fault: `end` is its end, and
-- `s` the game that was read. The text begins at the offset `start` of the input
abbrev pub game_placed : ℕ → List ℕ → ℕ → PgnEnd → State → Placed
game_placed start text at end s = record {
  begin = start + game_begin text at;
  end = start + end.offset;
  report = Game (length s.moves) end.outcome end.termination;
}

-- the report on this fault of the game from the offset `at` of a text on; `s` is the game as far as it was read.
-- Reading continues at `next`; if that is `None`, it doesn't. `goes_on`: whether it should continue after faults;
-- `draws`: whether the draws of 2014 end a game
abbrev pub fault_report : Bool → Bool → ℕ → List ℕ → ℕ → Option ℕ → GameFault → State → Report
fault_report draws goes_on start text at next fault s =
    Faulty (record fault { offset = start + fault.offset }) (names_at text at)
    (start + (wrong_part fault.kind text (game_begin text at) fault.offset).0)
    (wrong_part fault.kind text (game_begin text at) fault.offset).1
    (explanation s fault.kind (reason fault.kind (drop fault.offset text) (ending draws s)))
    (goes_on && not (is_some next) && nat_lt fault.offset (length text))

-- the report on a fault (`fault_report`) with its span, which ends at `next`, where reading continues, or at the text's
-- end if reading doesn't continue
abbrev pub fault_placed : Bool → Bool → ℕ → List ℕ → ℕ → Option ℕ → GameFault → State → Placed
fault_placed draws goes_on start text at next fault s = record {
  begin = start + game_begin text at;
  end = start + unwrap_or next (length text);
  report = fault_report draws goes_on start text at next fault s;
}

-- the report on a game of a text, with its span, and then those on the games after it, which `later` gives from its end
-- on, or after a fault from `next` on (if `None`, there are none). `report_then` is the same without spans
abbrev pub placed_then : Bool → Bool → ℕ → List ℕ → ℕ → Option ℕ → Result (Option PgnEnd) GameFault → State
    → (ℕ → List Placed) → List Placed
placed_then draws goes_on start text at next (Ok None) s later = []
placed_then draws goes_on start text at next (Ok (Some end)) s later =
    game_placed start text at end s ∷ later end.offset
placed_then draws goes_on start text at next (Err fault) s later =
    fault_placed draws goes_on start text at next fault s ∷ option_map_or later next []

-- the reports on at most n games (the fourth argument) of a text from its offset `at` on, with their spans.
-- `games_from` is the same without spans
unfoldable pub placed_from : Bool → Strictness → ℕ → ℕ → List ℕ → ℕ → List Placed
placed_from goes_on strict start zero text at = []
placed_from goes_on strict start (suc n) text at =
    placed_then strict.draws_of_2014 goes_on start text at (next_at goes_on text at) (judged_at strict text at)
    (read_at strict.draws_of_2014 text at).state
    (λ next. placed_from goes_on strict start n text next)

-- the reports on all games of a text, with their spans, up to its first fault, or if `goes_on` also after faults
abbrev pub placed_of : Bool → Strictness → ℕ → List ℕ → List Placed
placed_of goes_on strict start text = placed_from goes_on strict start (length text + 1) text 0

-- the reports on all games of a text up to its first fault, with their spans
abbrev pub placed_on : Strictness → ℕ → List ℕ → List Placed
placed_on = placed_of false

-- the report on a piece that is too long, with its span, which is the piece
abbrev pub too_long_placed : Piece → Placed
too_long_placed piece = record {
  begin = piece.offset;
  end = piece.offset + length piece.bytes;
  report = Faulty (record { kind = Pgn TooLong; offset = piece.offset }) [] piece.offset (shown piece.bytes) [] true;
}

-- the reports on the games of a piece, with their spans; a piece that is too long has one report
abbrev pub placed_in : Strictness → Piece → List Placed
placed_in strict piece = if nat_le (length piece.bytes) PIECE_LEN then placed_of true strict piece.offset piece.bytes
    else too_long_placed piece ∷ []

-- the reports on the games of a collection of which this text was read, with their spans: on all its pieces, if the
-- text is all of it (`ended`), otherwise on all but the last
abbrev pub collection_placed : Strictness → Bool → List ℕ → List Placed
collection_placed strict ended text = flat_map (placed_in strict) (pieces ended 0 text)
