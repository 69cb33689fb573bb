-- Worked examples: what is written of reports, where games begin and end, where a text is read on after a fault, and
-- into which pieces a collection is cut.
use Rattle.std.specs.Prelude.{◌≡◌, ◌≤◌, ℕ, Bool, true, false, List, [], ◌∷◌, ◌++◌, length, map, replicate, codes, Option, Some, None, Ok, Err}
use Prim.Native.String.{String as Text}
use Rattle.byte_devices.specs.Transfers.{FromInput, nothing, all_of, all_unflushed}
use Rattle.chess_game.specs.declared.results.Outcome.TheVariants.{BlackWins, Draw, Unfinished}
use Rattle.chess_pgn.specs.declared.read.PgnFaultKind.TheVariants.{AfterEnd, IllegalMove, UnclosedComment}
use Rattle.chess_pgn.specs.GameEnds.{game_end}
use Rattle.pgn_tokens.specs.Tokens.{Token, Tag, tokens_from}
use Rattle.pgn_pieces.specs.Pieces.{cut}
use Rattle.pgn_pieces.specs.declared.pieces.PieceFault.TheVariants as cutting
use Rattle.pgn_pieces.specs.declared.pieces.TheConstants.{PIECE_LEN}
use Rattle.pgn_verifier.specs.Collection.{AreCollectionReports, VerifiesCollection}
use Rattle.pgn_verifier.specs.Explanations.{explanation_line}
use Rattle.pgn_verifier.specs.Faults.{of_piece}
use Rattle.pgn_verifier.specs.Reports.{AreReports, Report, Placed, Game, Faulty, counts_line, counts_of, names_of, report_lines, spanning}
use Rattle.pgn_verifier.specs.Verify.{Verifies}
use Rattle.pgn_verifier.specs.declared.fault.VerifyFault.TheVariants.{ReadFailed, NoMemory, InputTooLong}
use Rattle.pgn_verifier.specs.declared.game_fault.FaultKind.TheVariants.{Pgn}
use Rattle.verify_options.specs.declared.options.Strictness.{Strictness}
use Rattle.verify_options.specs.declared.options.VerifyOptions.{VerifyOptions}
use Rattle.pgn_verifier.specs.declared.tally.Verified.TheVariants.{EachGame, FaultReported}
use Rattle.pgn_verifier.specs.laws.Reported.{judged_at, placed_of, placed_on, too_long_placed}
use Rattle.pgn_writer.specs.declared.termination.Termination.TheVariants.{TimeForfeit}

-- no contradiction and no variation is looked at
abbrev pub lenient : Strictness
lenient = record { draws_of_2014 = true; variations = false; variant = false; result = false; board = false }

-- ---- lines

-- `verify` without options
abbrev pub plain : VerifyOptions
plain = record { quiet = false; strict = lenient; spans = false; names = false; explain = false }

-- `verify --quiet`
abbrev pub with_quiet : VerifyOptions
with_quiet = record plain { quiet = true }

-- `verify --spans`
abbrev pub with_spans : VerifyOptions
with_spans = record plain { spans = true }

-- `verify --names`
abbrev pub with_names : VerifyOptions
with_names = record plain { names = true }

-- `verify --spans --names`
abbrev pub with_spans_and_names : VerifyOptions
with_spans_and_names = record plain { spans = true; names = true }

-- `verify --explain`
abbrev pub with_explain : VerifyOptions
with_explain = record plain { explain = true }

-- the report on a game of two half-moves that White lost on time
abbrev pub lost : Report
lost = Game 2 BlackWins (Some TimeForfeit)

-- the report on the illegal move Ke3 in a game between A and B
abbrev pub illegal : Report
illegal =
    Faulty (record { kind = Pgn IllegalMove; offset = 39 }) (codes " | A - B, E F") 39 (codes "Ke3") [] false

-- the report on a move after the end of a game between A and B
abbrev pub after_end : Report
after_end = Faulty (record { kind = Pgn AfterEnd; offset = 39 }) (codes " | A - B, E F") 39 (codes "O-O") [] false

-- the report on a comment that isn't closed, after which nothing is read; here the position's FEN is simply `FEN`
abbrev pub unclosed : Report
unclosed = Faulty (record { kind = Pgn UnclosedComment; offset = 6 }) [] 6 (codes "{") (codes " | FEN") true

-- `lost` from the byte 0 up to 9, and `illegal` from 10 up to 45
abbrev pub both : List Placed
both = spanning 0 9 lost ∷ spanning 10 45 illegal ∷ []

-- the tags of a game between A and B, each with how many bytes are left where it begins
abbrev pub four_tags : List (ℕ × Token)
four_tags = (46, Tag (codes "Event") (codes "E") 38) ∷ (34, Tag (codes "Date") (codes "F") 27)
    ∷ (23, Tag (codes "White") (codes "A") 15) ∷ (11, Tag (codes "Black") (codes "B") 3) ∷ []

-- an input that ended after this text
abbrev pub whole : List ℕ → FromInput
whole text = record { text = text; early = text; ended = true; failed = false; silences = 0 }

-- an input of which a read failed after this text
abbrev pub cut_off : List ℕ → FromInput
cut_off text = record { text = text; early = []; ended = false; failed = true; silences = 0 }

-- the lines of the two reports (`both`), with these options, are this text
abbrev pub AreWritten : VerifyOptions → Text → Type 0
AreWritten options text = report_lines options [] 1 both ≡ codes text

-- what is written: the lines of reports and that of their counts, with some options; all of a text and of a collection
-- with these reports, of an empty collection, and if a read fails
pub record ReportsAreWritten : Type 0 where
  pub plainly : AreWritten plain "game 1: 2 half-moves, 0-1, time forfeit\ngame 2: illegal move at byte 39\n"
  -- a game without a fault is left out, but has a number
  pub quietly : AreWritten with_quiet "game 2: illegal move at byte 39\n"
  pub spans : AreWritten with_spans
      "game 1: 2 half-moves, 0-1, time forfeit, bytes 0 to 9\ngame 2: illegal move at byte 39, bytes 10 to 45\n"
  -- only a fault's line has names
  pub names : AreWritten with_names
      "game 1: 2 half-moves, 0-1, time forfeit\ngame 2: illegal move at byte 39 | A - B, E F\n"
  pub spans_and_names : report_lines with_spans_and_names [] 2 (spanning 10 45 illegal ∷ [])
      ≡ codes "game 2: illegal move at byte 39, bytes 10 to 45 | A - B, E F\n"
  -- White first, then the event and the date; `?` for each missing tag
  pub players : names_of four_tags ≡ codes " | A - B, E F"
  pub nobody : names_of [] ≡ codes " | ? - ?, ? ?"
  pub explained : explanation_line (codes "a\nb\ncdef") 7 (codes "f") ≡ codes "# line 3 column 4 f\n"
  -- the bytes that aren't read begin at the fault, not at its game
  pub unread : report_lines with_explain (codes "1. e4 {") 1 (spanning 0 7 unclosed ∷ [])
      ≡ codes "game 1: unclosed comment at byte 6\n# line 1 column 7 { | FEN | bytes 6 to 7 not read\n"
  -- of a piece that is too long no byte is read
  pub too_long : report_lines with_explain (codes "1. e4 e5 \nab c") 1
      (too_long_placed (record { offset = 10; bytes = codes "ab c" }) ∷ [])
      ≡ codes "game 1: too long at byte 10\n# line 2 column 1 ab | bytes 10 to 14 not read\n"
  -- of a text all lines are written, and no counts
  pub of_text : (text : List ℕ) → length text ≤ PIECE_LEN → AreReports false lenient 0 text 0 both
      → Verifies plain (Ok FaultReported) (whole text)
      (all_of (codes "game 1: 2 half-moves, 0-1, time forfeit\ngame 2: illegal move at byte 39\n"))
  -- nothing is written if a read fails
  pub text_cut_off : Verifies plain (Err ReadFailed) (cut_off (codes "*\n")) nothing
  -- of a collection the counts follow
  pub of_collection : (text : List ℕ) → AreCollectionReports lenient 0 (cut text) both
      → VerifiesCollection plain (Ok FaultReported) (whole text)
      (all_of (codes "game 1: 2 half-moves, 0-1, time forfeit\ngame 2: illegal move at byte 39\n"
      ++ codes "games 1 half-moves 2 faults 1\n"))
  pub no_games : VerifiesCollection plain (Ok EachGame) (whole [])
      (all_of (codes "games 0 half-moves 0 faults 0\n"))
  -- no counts if a read fails, and no line of the last piece, which may go on
  pub cut_off_in_piece : VerifiesCollection plain (Err ReadFailed) (cut_off (codes "*\n")) (all_unflushed [])
  -- verifying fails as cutting into pieces fails
  pub piece_faults : map of_piece (cutting.ReadFailed ∷ cutting.NoMemory ∷ cutting.InputTooLong ∷ [])
      ≡ ReadFailed ∷ NoMemory ∷ InputTooLong ∷ []
  pub after_mate : report_lines plain [] 1 (spanning 0 42 after_end ∷ [])
      ≡ codes "game 1: move after the end at byte 39\n"
  pub counts : counts_line (counts_of (both ++ spanning 46 60 (Game 4 Draw None) ∷ []))
      ≡ codes "games 2 half-moves 6 faults 1\n"

-- ---- spans

-- a report's span
abbrev pub span : Placed → ℕ × ℕ
span p = (p.begin, p.end)

-- the two games of this text begin after the white space before them, and end with their markers
abbrev pub GamesAreFound : Type 0
GamesAreFound = map span (placed_on lenient 0 (codes " *\n *")) ≡ (1, 2) ∷ (4, 5) ∷ []

-- ---- after a fault

-- the first game of this text ends at this offset, where the text is read on if the game has a fault; `None`: nowhere
abbrev pub IsReadOnAt : Text → Option ℕ → Type 0
IsReadOnAt text at = game_end (length (codes text)) (tokens_from (codes text) 0) ≡ at

-- variations are looked at
abbrev pub with_variations : Strictness
with_variations = record lenient { variations = true }

-- whether a report says that from the fault's byte on the text isn't read
abbrev pub is_left : Report → Bool
is_left (Game plies outcome termination) = false
is_left (Faulty fault names wrong_at part why is_unread) = is_unread

-- whether the report says that bytes aren't read (`is_left`)
abbrev pub leaves_bytes : Placed → Bool
leaves_bytes p = is_left p.report

-- where a text is read on after a game with a fault, how far that game's span goes, and whether bytes are left unread
pub record TextsAreReadOn : Type 0 where
  -- after the game's marker, whatever comes before that
  pub marker : IsReadOnAt "e9 1-0 *" (Some 6)
  pub later : IsReadOnAt "e9 e4 (1-0) {*} e5 1-0 *" (Some 22)
  -- without one, at the tags of the next game
  pub tags : IsReadOnAt "e9 [A \"b\"] *" (Some 3)
  -- with `--keep-going` the fault's span goes up to there; without it, up to the text's end
  pub kept_going : map span (placed_of true lenient 0 (codes "12 [A \"b\"]*")) ≡ (0, 3) ∷ (3, 11) ∷ []
  pub stopped : map span (placed_on lenient 0 (codes "12 [A \"b\"]*")) ≡ (0, 11) ∷ []
  -- if no end is found, the bytes from the fault on are left, unless the fault is at the text's end
  pub bytes_left : map leaves_bytes (placed_of true lenient 0 (codes "12 {")) ≡ true ∷ []
  pub none_left : map leaves_bytes (placed_of true lenient 0 (codes "12")) ≡ false ∷ []
  -- a variation after a game's marker isn't the game's
  pub later_variation : judged_at with_variations (codes "* (e4)") 0
      ≡ Ok (Some (record { outcome = Unfinished; termination = None; offset = 1 }))
  -- a game ends nowhere if the text ends before its marker or such tags, or can't be read up to there
  pub end : IsReadOnAt "e9 e4" None
  pub unreadable : IsReadOnAt "e9 {1-0 *" None
  -- so also if a `[` that begins no tag comes before them
  pub bad_tag : IsReadOnAt "e9 [A b] *" None

-- ---- pieces

-- the text is cut into these pieces
abbrev pub AreItsPieces : Text → List (List ℕ) → Type 0
AreItsPieces text pieces = cut (codes text) ≡ pieces

-- a tag line of more than 256 bytes: one tag, then this text, which begins as a second tag does, and spaces
abbrev pub long_line : Text → List ℕ
long_line second = codes "[Event \"a\"] " ++ codes second ++ replicate 250 32 ++ codes "\n"

-- where a piece begins
pub record PiecesBegin : Type 0 where
  -- at an Event line after an Event line
  pub events : AreItsPieces "[Event \"a\"]\n[Event \"b\"]\n" (codes "[Event \"a\"]\n" ∷ codes "[Event \"b\"]\n" ∷ [])
  -- not at an Event line after another tag line, nor at another tag line after an Event line
  pub event_later : AreItsPieces "[White \"a\"]\n[Event \"b\"]\n" (codes "[White \"a\"]\n[Event \"b\"]\n" ∷ [])
  pub white_later : AreItsPieces "[Event \"a\"]\n[White \"b\"]\n" (codes "[Event \"a\"]\n[White \"b\"]\n" ∷ [])
  -- not at a tag line after only comment lines and lines of spaces
  pub no_moves : AreItsPieces "%a\n;b\n \n[Event \"c\"]\n" (codes "%a\n;b\n \n[Event \"c\"]\n" ∷ [])
  -- at any tag line after a line of moves
  pub moves : AreItsPieces "1. e4 *\n[White \"b\"]\n" (codes "1. e4 *\n" ∷ codes "[White \"b\"]\n" ∷ [])
  -- also if these moves are in a tag's line, after one tag or more
  pub moves_after_tag : AreItsPieces "[Event \"a\"] e4 *\n[White \"b\"]\n"
      (codes "[Event \"a\"] e4 *\n" ∷ codes "[White \"b\"]\n" ∷ [])
  pub moves_after_tags : AreItsPieces "[Event \"a\"] [Site \"b\"] e4 *\n[White \"c\"]\n"
      (codes "[Event \"a\"] [Site \"b\"] e4 *\n" ∷ codes "[White \"c\"]\n" ∷ [])
  -- and if a comment, and a string with a quote in it, come before the moves
  pub moves_after_comment : AreItsPieces "[Event \"\\\"\"] {a} e4 *\n[White \"b\"]\n"
      (codes "[Event \"\\\"\"] {a} e4 *\n" ∷ codes "[White \"b\"]\n" ∷ [])
  pub quote_in_tag : AreItsPieces "[Event \"\\\"\"]\n[White \"b\"]\n" (codes "[Event \"\\\"\"]\n[White \"b\"]\n" ∷ [])
  -- also at a tag line after one with a byte that begins no token, or with a tag that isn't closed
  pub no_token : AreItsPieces "[Event \"a\"] <\n[White \"b\"]\n"
      (codes "[Event \"a\"] <\n" ∷ codes "[White \"b\"]\n" ∷ [])
  pub unclosed_tag : AreItsPieces "[Event \"a\n[White \"b\"]\n"
      (codes "[Event \"a\n" ∷ codes "[White \"b\"]\n" ∷ [])
  -- also at a tag line after one with a glyph, a dot, a mark and then a move, or with a variation
  pub moves_after_glyph : AreItsPieces "[Event \"a\"] $12 . ! e4 *\n[White \"b\"]\n"
      (codes "[Event \"a\"] $12 . ! e4 *\n" ∷ codes "[White \"b\"]\n" ∷ [])
  pub variation_after_tag : AreItsPieces "[Event \"a\"] (e4)\n[White \"b\"]\n"
      (codes "[Event \"a\"] (e4)\n" ∷ codes "[White \"b\"]\n" ∷ [])
  -- also at a tag line after a line with a space before its `%`, which is no escape of PGN
  pub indented_escape : AreItsPieces " %\n[White \"b\"]\n" (codes " %\n" ∷ codes "[White \"b\"]\n" ∷ [])
  -- not at a tag line after one with only marks or a glyph after its tag, or with a comment that isn't closed on it
  pub marks_after_tag : AreItsPieces "[Event \"a\"] !\n[White \"b\"]\n" (codes "[Event \"a\"] !\n[White \"b\"]\n" ∷ [])
  pub glyph_after_tag : AreItsPieces "[Event \"a\"] $12\n[White \"b\"]\n"
      (codes "[Event \"a\"] $12\n[White \"b\"]\n" ∷ [])
  pub unclosed_comment : AreItsPieces "[Event \"a\"] {\n[White \"b\"]\n" (codes "[Event \"a\"] {\n[White \"b\"]\n" ∷ [])
  -- after a tag line so long that its end isn't looked at: if something is between a tag's string and its bracket, but
  -- not if the tag may be closed further on
  pub broken_on_long_line : cut (long_line "[Site \"b\" c" ++ codes "[White \"b\"]\n")
      ≡ long_line "[Site \"b\" c" ∷ codes "[White \"b\"]\n" ∷ []
  pub open_on_long_line : cut (long_line "[Site \"b\"" ++ codes "[White \"b\"]\n")
      ≡ (long_line "[Site \"b\"" ++ codes "[White \"b\"]\n") ∷ []
