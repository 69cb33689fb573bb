-- The small texts of the law `empty_games_are_read`, most of games without a move, by computation: the text is split,
-- read, and the result compared. Only one thing is not computed: that `O-O` has the shape of a move, which follows from
-- a law of chess_text_laws (ShapedByText, a premise). So after a mate, where no move is legal, this word is a move
-- after the end of the game (AfterEnd).
use Rattle.std.proofs.Common.{◌≡◌, ◌∙◌, ℕ, inl, Bool, true, false, List, [], ◌∷◌, Option, None, Some, Result, Ok, Err, is_some, slice_get, codes, if◌then◌else◌, refl, ap}
use Rattle.std.specs.List.{filter, filter_map, last_or}
use Rattle.std.specs.Option.{option_map_or, unwrap_or}
use Rattle.std.specs.Result.{ok_prefix, result_err, result_map_both, result_ok}
use Rattle.chess_base.specs.Attacks.{is_clear, could_capture, attacks, is_attacked, is_in_check}
use Rattle.chess_base.specs.Castling.{king_square, right_is_sound, is_castling_to, castling, castle_of, castling_needs_empty, castling_way_is_empty, castling_way_is_safe, castles}
use Rattle.chess_base.specs.{declared.fen_fault.FenFault.FenFault, declared.man.CastlingSide.TheVariants.KingSide, declared.man.Move.Move, declared.man.Variant.TheVariants.Normal, declared.setup.Setup.Setup, Faults.rights_are_sound, Initial.initial_setup_of, Men.is_of, Men.is_man, MoveList.all_moves, MoveList.moves}
use Rattle.chess_base.specs.Moves.{is_double_advance, is_en_passant, pawn_advances, pawn_captures, pawn_moves, man_moves, is_pseudo_legal, captured_square, men_after, rights_after, target_after, resets_clock, halfmove_after, after, is_legal}
use Rattle.chess_base.specs.Sound.{has_one_king, no_pawn_on_end_ranks, has_at_most_16, target_is_sound}
use Rattle.chess_base.specs.Squares.{squares, some_square, each_square, is_between}
use Rattle.chess_fen.specs.{Reading.fen_reading_as, Texts.may_name_right}
use Rattle.chess_game.specs.Ends.{has_bishop_on, has_insufficient_material, verdict}
use Rattle.chess_game.specs.Game.{from_start, played}
use Rattle.chess_game.specs.Same.{is_same_position, legal_en_passant_square, repetition_count, same_men, same_rights}
use Rattle.chess_game.specs.{declared.results.Outcome.TheVariants.WhiteWins, declared.results.Outcome.TheVariants.BlackWins, declared.results.Outcome.TheVariants.Draw, declared.results.Outcome.TheVariants.Unfinished, declared.verdicts.Verdict.Verdict, declared.verdicts.Verdict.TheVariants.WhiteMates}
use Rattle.chess_text.specs.Moves.{denotes, one_of, reading, shape}
use Rattle.chess_text.specs.{Parts.unmarked, declared.reading.Reading.Reading, laws.CastlingTexts.is_castling_text}
use Rattle.chess_text_laws.specs.Laws.{ShapedByText}
use Rattle.chess_text.specs.declared.reading.Reading.TheVariants as reads
use Rattle.chess_pgn.specs.GameRead.{GameRead, closed_by, declared_after, failed, moves_read, pgn_read}
use Rattle.pgn_tokens.specs.Tokens.{Word, after_gap_lines, token_at, tokens_from, tokens_of}
use Rattle.chess_pgn.specs.Variations.{variation_fault}
use Rattle.chess_pgn.specs.Words.{word_gives}
use Rattle.chess_pgn.specs.{declared.read.PgnEnd.PgnEnd, declared.read.PgnFault.PgnFault, declared.read.PgnFaultKind.TheVariants.AfterEnd, declared.read.PgnFaultKind.TheVariants.BadFen, declared.read.PgnFaultKind.TheVariants.IllegalMove, declared.read.PgnFaultKind.TheVariants.TooLong}
use Rattle.pgn_writer.specs.Terminations.{termination_named}
use Rattle.chess_pgn_laws.specs.EmptyGames.{EmptyGamesAreRead, NamesAreKnown, PercentLinesAreSkipped, StringsEnd, TagsAreFound, TokensEnd, read_of}

-- the initial position has no verdict
no_verdict : verdict (initial_setup_of Normal) [] ≡ None
unfolding squares some_square each_square is_between is_of is_man is_clear could_capture attacks is_attacked is_in_check
    is_castling_to castling castle_of castling_needs_empty castling_way_is_empty castling_way_is_safe castles
    initial_setup_of all_moves moves is_double_advance is_en_passant pawn_advances pawn_captures pawn_moves man_moves
    is_pseudo_legal captured_square men_after rights_after target_after resets_clock halfmove_after after is_legal
    verdict has_bishop_on has_insufficient_material same_men same_rights legal_en_passant_square is_same_position
    repetition_count
no_verdict = refl

-- `*` declares nothing, whether the board has a verdict or not
undeclared : (decided : Bool) → declared_after decided Unfinished ≡ None
undeclared true = refl
undeclared false = refl

-- so it is where the board's verdict is that of the initial position
none_declared : declared_after (is_some (verdict (initial_setup_of Normal) [])) Unfinished ≡ None
none_declared = undeclared (is_some (verdict (initial_setup_of Normal) []))

-- ---- after a mate

-- the FEN of a mate: the queen on g7, protected by her king, mates the king on h8
abbrev mated_fen : List ℕ
mated_fen = codes "7k/6Q1/6K1/8/8/8/8/8 b - - 0 1"

-- the position of that FEN
abbrev mated : Setup
mated = unwrap_or (result_ok (fen_reading_as Normal mated_fen)) (initial_setup_of Normal)

fen_is_read : fen_reading_as Normal mated_fen ≡ Ok mated
unfolding squares some_square each_square is_between is_of is_man is_clear could_capture attacks is_attacked
    is_in_check king_square right_is_sound rights_are_sound has_one_king no_pawn_on_end_ranks has_at_most_16
    target_is_sound may_name_right
fen_is_read = refl

-- the position of that FEN is mate
is_mate : verdict mated [] ≡ Some WhiteMates
unfolding squares some_square each_square is_between is_of is_man is_clear could_capture attacks is_attacked is_in_check
    king_square right_is_sound rights_are_sound has_one_king no_pawn_on_end_ranks has_at_most_16 target_is_sound
    may_name_right is_castling_to castling castle_of castling_needs_empty castling_way_is_empty castling_way_is_safe
    castles is_double_advance is_en_passant pawn_advances pawn_captures pawn_moves man_moves is_pseudo_legal
    captured_square men_after rights_after target_after resets_clock halfmove_after after is_legal all_moves moves
    verdict has_bishop_on has_insufficient_material
is_mate = refl

-- so it has no legal move
none_legal : moves mated ≡ []
unfolding squares some_square each_square is_between is_of is_man is_clear could_capture attacks is_attacked is_in_check
    king_square right_is_sound rights_are_sound has_one_king no_pawn_on_end_ranks has_at_most_16 target_is_sound
    may_name_right is_castling_to castling castle_of castling_needs_empty castling_way_is_empty castling_way_is_safe
    castles is_double_advance is_en_passant pawn_advances pawn_captures pawn_moves man_moves is_pseudo_legal
    captured_square men_after rights_after target_after resets_clock halfmove_after after is_legal all_moves moves
none_legal = refl

-- `O-O` has the shape of a move
is_shaped : ShapedByText → shape (codes "O-O") ≡ true
unfolding is_castling_text unmarked
is_shaped law = (law (codes "O-O")).1 (inl (KingSide, refl))

-- where no move is legal, a text with the shape of a move denotes none
none_read : (p : Setup) (text : List ℕ) → moves p ≡ [] → shape text ≡ true → reading p text ≡ reads.NoSuch
unfolding reading
none_read p text none is = rw is (ap (λ (ms : List Move). one_of (filter (λ m. denotes p text m) ms)) none)

-- what is read of the text, the FEN of the mate and then the word `O-O`, if its FEN is read so
abbrev by_fen : Result Setup FenFault → GameRead
by_fen x =
    let fens : List (Result Setup PgnFault) =
    result_map_both (λ start. start) (λ fault. record { kind = BadFen fault; offset = 6 }) x ∷ [] in
    let s = from_start (unwrap_or (last_or None (ok_prefix fens)) (initial_setup_of Normal)) in
    option_map_or (λ f. failed s f.kind f.offset) (slice_get (filter_map result_err fens) 0)
    (moves_read true 1 42 None s ((3, Word (codes "O-O")) ∷ []))

-- what is read of it in the position `p`, if its word denotes this there
abbrev by_word : Setup → Reading → GameRead
by_word p r = word_gives (closed_by true 1 (from_start p)) (λ m. moves_read true 1 42 None (played (from_start p) m) [])
    (λ kind. failed (from_start p) kind 39) r

-- the fault of a word that denotes no legal move, if the game is over or not
abbrev by_end : Bool → Result (Option PgnEnd) PgnFault
by_end over = Err (record { kind = unwrap_or (if over then Some AfterEnd else None) IllegalMove; offset = 39 })

-- a word with the shape of a move, in a mate, is a move after the end (AfterEnd), not an illegal one
late_word : (p : Setup) → fen_reading_as Normal mated_fen ≡ Ok p → verdict p [] ≡ Some WhiteMates
    → reading p (codes "O-O") ≡ reads.NoSuch
    → (read_of "[FEN \"7k/6Q1/6K1/8/8/8/8/8 b - - 0 1\"] O-O").answer
    ≡ Err (record { kind = AfterEnd; offset = 39 })
unfolding pgn_read token_at tokens_of tokens_from
late_word p is mate none =
    ap (λ (x : Result Setup FenFault). (by_fen x).answer) is
    ∙ ap (λ (r : Reading). (by_word p r).answer) none
    ∙ ap (λ (o : Option Verdict). by_end (is_some o)) mate

-- a variation that may not be nested is the fault
none_nested : (p : Setup) → variation_fault tokens_from 0 (codes "(e4)") p 0
    ≡ Some (record { kind = TooLong; offset = 0 })
unfolding variation_fault
none_nested p = refl

-- ---- row by row

strings_end : StringsEnd
unfolding pgn_read termination_named after_gap_lines token_at tokens_of tokens_from
strings_end = record {
  empty = refl;
  quote = refl;
  backslash = refl;
  both = refl;
  others = refl;
  line_end = refl;
  kept_line_end = refl;
  unclosed_line = refl;
  unclosed = refl;
  kept_quote = refl;
  backslash_stays = refl;
  after_quote = refl;
  outside = refl;
}

percent_lines_are_skipped : PercentLinesAreSkipped
unfolding pgn_read termination_named after_gap_lines token_at tokens_of tokens_from
percent_lines_are_skipped = record {
  later = refl;
  both = refl;
  to_end = refl;
  in_line = refl;
  after_blank = refl;
  after_return = refl;
  after_comment = refl;
  in_comment = refl;
  in_variation = refl;
  return_in_variation = refl;
  in_tag = refl;
  in_line_of_tag = refl;
  after_bracket = refl;
  return_in_tag = refl;
  second = refl;
  second_in_line = refl;
  order_mark = refl;
  after_order_mark = refl;
}

tokens_end : TokensEnd
unfolding pgn_read termination_named after_gap_lines token_at tokens_of tokens_from
tokens_end = record {
  white_space = refl;
  brace_in_comment = refl;
  semicolon_in_comment = refl;
  brace_in_line = refl;
  nested = refl;
  comment_inside = refl;
  unclosed_comment = refl;
  unclosed_variation = refl;
  unclosed_inside = refl;
  no_digits = refl;
  glyph = refl;
  word = refl;
  draw = refl;
  lost = refl;
  skips = (4 ∷ 3 ∷ [], refl);
  none_next = refl;
  bad_tag_next = refl;
  unclosed_next = refl;
  no_token = refl;
}

tags_are_found : TagsAreFound
unfolding pgn_read termination_named may_name_right after_gap_lines token_at tokens_of tokens_from
tags_are_found = record {
  gaps = refl;
  returns = refl;
  name = refl;
  hyphen = refl;
  no_name = refl;
  second_bad = refl;
  after_marks = refl;
  late = refl;
  late_bad = refl;
  in_order = refl;
  passed = refl;
  only_marks = refl;
  only_tag = refl;
  last_known = refl;
  last_unknown = refl;
  first_bad_fen = refl;
  by_variant = refl;
  small_name = refl;
}

names_are_known : NamesAreKnown
unfolding termination_named after_gap_lines token_at tokens_of tokens_from
names_are_known = record {
  normal = refl;
  chess960 = refl;
  other_variants = refl;
  atomic = refl;
  standard = refl;
  terminations = refl;
  outcomes = refl;
  lost = refl;
  no_outcome = refl;
  of_2014 = refl;
}

-- ---- all

pub empty_games_are_read : ShapedByText → EmptyGamesAreRead
unfolding pgn_read termination_named token_at tokens_of tokens_from
empty_games_are_read law = record {
  number = (refl, none_declared, refl);
  semicolon = (refl, none_declared, refl);
  percent = (refl, none_declared, refl);
  braces = (refl, none_declared, refl);
  variation = (refl, none_declared, refl);
  semicolon_inside = (refl, none_declared, refl);
  percent_inside = (refl, none_declared, refl);
  glyph = (refl, none_declared, refl);
  marks = (refl, none_declared, refl);
  no_result = refl;
  won = ap (λ (over : Option Verdict). declared_after (is_some over) WhiteWins) no_verdict;
  lost = ap (λ (over : Option Verdict). declared_after (is_some over) BlackWins) no_verdict;
  drawn = ap (λ (over : Option Verdict). declared_after (is_some over) Draw) no_verdict;
  no_move_before = refl;
  tag_before = refl;
  too_deep = none_nested;
  variant = refl;
  termination = refl;
  after_mate = late_word mated fen_is_read is_mate (none_read mated (codes "O-O") none_legal (is_shaped law));
  strings = strings_end;
  percent_lines = percent_lines_are_skipped;
  tokens = tokens_end;
  tags = tags_are_found;
  names = names_are_known;
}
