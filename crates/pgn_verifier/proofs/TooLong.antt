-- A piece of a collection that is too long to be read is reported as a fault, with a line that explains it if that is
-- asked for. The lines that `too_long_lines` makes are those of the definition (lines_are), since each part of them is;
-- so they were written, and counted (too_long_written), or broke off (too_long_broke).
use Rattle.std.proofs.Common.{◌≡◌, ℕ, ◌+◌, Bool, true, List, [], ◌∷◌, ◌++◌, Some, None, Ok, Err, refl, sym, ap, subst, ◌∙◌, append-nil, if◌then◌else◌}
use Rattle.std.specs.Option.{option_map_or}
use Rattle.byte_devices.specs.Devices.{OutputState, Took, CutShort}
use Rattle.chess_pgn.specs.declared.read.PgnFaultKind.TheVariants.{TooLong}
use Rattle.pgn_pieces.specs.{Places.line_of, Places.column_of, Stream.PieceSeen}
use Rattle.verify_options.specs.declared.options.VerifyOptions.{VerifyOptions}
use Rattle.pgn_verifier.specs.{Explanations.shown, Explanations.explanation_line, declared.game_fault.FaultKind.TheVariants.Pgn, declared.start.TextStart.TextStart, declared.tally.Tally.Tally, laws.Reported.placed_of}
use Rattle.pgn_verifier.specs.Reports.{report_lines}
use Rattle.pgn_verifier.specs.ties.Explaining.{span_from, unread_text}
use Rattle.pgn_verifier.specs.ties.OnTheWay.{StandsIf, PieceStandsIf, Writes, counted, fault_line, next_number, reports_seen, too_long_seen}
use Rattle.pgn_verifier.proofs.NamesShown.{unnamed}

-- the lines on a piece that is too long, which begins at the offset `at` with these bytes; `span` and `names`: the end
-- of the first; `unread`: the end of the second
abbrev pub long_lines : Bool → List ℕ → ℕ → ℕ → List ℕ → List ℕ → List ℕ → List ℕ → List ℕ
long_lines explain input number at span names unread beginning =
    fault_line number (record { kind = Pgn TooLong; offset = at }) span names
    ++ (if explain then explanation_line input at (shown beginning ++ unread) else [])

-- the place where the piece begins is right in the input, so faults at its first byte can be explained
pub stands_there : (explain : Bool) (start : TextStart) (line : ℕ) (input : List ℕ) (piece : PieceSeen)
    → start.offset ≡ piece.offset → start.line ≡ line → PieceStandsIf explain line input piece
    → StandsIf explain start input []
stands_there explain start line input piece offset is stands e =
    let there = stands e in record {
      bytes = refl;
      line = ap (line_of input) offset ∙ there.line ∙ sym is;
      column = ap (column_of input) offset ∙ there.column;
    }

-- the parts of the lines, as the code has them, are those that the definition names
module _ (options : VerifyOptions) (input : List ℕ) (before : Tally) (w w' : OutputState) (piece : PieceSeen)
    (none : piece.bytes ≡ None) (number at : ℕ) (span names unread beginning : List ℕ)
    (number_is : number ≡ next_number before)
    (at_is : at ≡ piece.offset) (span_is : span ≡ span_from options piece.offset piece.end)
    (names_is : names ≡ [])
    (unread_is : unread ≡ unread_text (Some piece.offset) piece.end) (beginning_is : beginning ≡ piece.beginning)
  where
    abbrev own : List ℕ
    own = span_from options piece.offset piece.end

    abbrev no_names : List ℕ
    no_names = if options.names then [] else []

    abbrev all : List ℕ
    all = unread_text (Some piece.offset) piece.end

    lines_are : long_lines options.explain input number at span names unread beginning
        ≡ report_lines options input (next_number before) (reports_seen options.strict piece)
    lines_are =
        ap (λ n. long_lines options.explain input n at span names unread beginning) number_is
        ∙ ap (λ o. long_lines options.explain input (next_number before) o span names unread beginning) at_is
        ∙ ap (λ xs. long_lines options.explain input (next_number before) piece.offset xs names unread beginning)
        span_is
        ∙ ap (λ xs. long_lines options.explain input (next_number before) piece.offset own xs unread beginning)
        (names_is ∙ unnamed options.names [])
        ∙ ap (λ xs. long_lines options.explain input (next_number before) piece.offset own no_names xs beginning)
        unread_is
        ∙ ap (λ xs. long_lines options.explain input (next_number before) piece.offset own no_names all xs)
        beginning_is
        ∙ sym (append-nil
        (long_lines options.explain input (next_number before) piece.offset own no_names all piece.beginning))
        ∙ sym (ap (λ bytes. report_lines options input (next_number before)
        (option_map_or (placed_of true options.strict piece.offset) bytes (too_long_seen piece ∷ []))) none)

    pub too_long_written : (E : Type 0) (after : Tally)
        → after ≡ record { games = before.games; half_moves = before.half_moves; faults = before.faults + 1 }
        → Took w w' (long_lines options.explain input number at span names unread beginning)
        → Writes {E = E} options input before w w' (Ok after) (reports_seen options.strict piece)
    too_long_written E after is took = (
      subst (Took w w') lines_are took,
      is ∙ sym (ap (λ bytes. counted before
          (option_map_or (placed_of true options.strict piece.offset) bytes (too_long_seen piece ∷ []))) none),
    )

    pub too_long_broke : {E : Type 0} (e : E)
        → CutShort w w' (long_lines options.explain input number at span names unread beginning)
        → Writes options input before w w' (Err e) (reports_seen options.strict piece)
    too_long_broke e broke = subst (CutShort w w') lines_are broke
