-- The known texts of the five laws: SAN and moves by squares, texts that denote a move or don't, results, numbered
-- moves, and tags. By computation: with the listed definitions unfolded, the text that the definition makes (or whether
-- a text denotes the move) is the one named.
use Rattle.std.proofs.Common.{◌≡◌, Some, [], ◌∷◌, codes, refl}
use Rattle.std.specs.Fmt.{digits}
use Rattle.chess_base.specs.Attacks.{is_clear, could_capture, attacks, is_attacked, is_in_check}
use Rattle.chess_base.specs.Castling.{king_square, right_is_sound, is_castling_to, castling, castle_of, castling_needs_empty, castling_way_is_empty, castling_way_is_safe, castles}
use Rattle.chess_base.specs.{Faults.rights_are_sound, Initial.initial_setup, Initial.initial_setup_of, Men.is_of, Men.is_man, MoveList.all_moves, MoveList.moves}
use Rattle.chess_base.specs.Moves.{is_double_advance, is_en_passant, pawn_advances, pawn_captures, pawn_moves, man_moves, is_pseudo_legal, captured_square, men_after, rights_after, target_after, resets_clock, halfmove_after, after, is_legal}
use Rattle.chess_base.specs.Sound.{has_one_king, no_pawn_on_end_ranks, has_at_most_16, target_is_sound}
use Rattle.chess_base.specs.Squares.{squares, some_square, each_square, is_between}
use Rattle.chess_fen.specs.{Texts.may_name_right, Writing.placement_text}
use Rattle.chess_game.specs.Ends.{has_bishop_on, has_insufficient_material, result_text, verdict}
use Rattle.chess_game.specs.Same.{is_same_position, legal_en_passant_square, repetition_count, same_men, same_rights}
use Rattle.chess_text.specs.{Parts.unmarked, Moves.denotes, Moves.denotes_described, Moves.described, San.rival_starts, San.check_mark, San.san, San.shown_move}
use Rattle.rules_laws.specs.KnownGames.{move_by}
use Rattle.rules_laws.specs.KnownTexts.{becomes_knight, IsWritten, MovesAreNumbered, MovesAreShown, MovesAreWritten, ResultsAreWorded, TagsAreInOrder, TextsDenoteMoves, tokens_from}

castling_check : IsWritten "5k2/8/8/8/8/8/8/4K2R w K - 0 1" (move_by "e1" "g1") "O-O+"
unfolding squares some_square each_square is_between is_of is_man is_clear could_capture attacks is_attacked is_in_check
    is_castling_to castling castle_of castling_needs_empty castling_way_is_empty castling_way_is_safe castles
    king_square right_is_sound rights_are_sound has_one_king no_pawn_on_end_ranks has_at_most_16 target_is_sound
    may_name_right all_moves moves is_double_advance is_en_passant pawn_advances pawn_captures pawn_moves man_moves
    is_pseudo_legal captured_square men_after rights_after target_after resets_clock halfmove_after after is_legal
    described rival_starts check_mark san
castling_check = refl

stalemate : IsWritten "7k/8/6K1/8/8/8/8/5Q2 w - - 0 1" (move_by "f1" "f7") "Qf7"
unfolding squares some_square each_square is_between is_of is_man is_clear could_capture attacks is_attacked is_in_check
    is_castling_to castling castle_of castling_needs_empty castling_way_is_empty castling_way_is_safe castles
    king_square right_is_sound rights_are_sound has_one_king no_pawn_on_end_ranks has_at_most_16 target_is_sound
    may_name_right all_moves moves is_double_advance is_en_passant pawn_advances pawn_captures pawn_moves man_moves
    is_pseudo_legal captured_square men_after rights_after target_after resets_clock halfmove_after after is_legal
    described rival_starts check_mark san
stalemate = refl

-- captures by a knight, by a pawn en passant, and with a promotion
captures : IsWritten "4k3/8/8/4p3/8/5N2/8/4K3 w - - 0 1" (move_by "f3" "e5") "Nxe5"
    × IsWritten "4k3/8/8/3pP3/8/8/8/4K3 w - d6 0 1" (move_by "e5" "d6") "exd6"
    × IsWritten "1r2k3/P7/8/8/8/8/8/4K3 w - - 0 1" (becomes_knight "a7" "b8") "axb8=N"
unfolding squares some_square each_square is_between is_of is_man is_clear could_capture attacks is_attacked is_in_check
    is_castling_to castling castle_of castling_needs_empty castling_way_is_empty castling_way_is_safe castles
    king_square right_is_sound rights_are_sound has_one_king no_pawn_on_end_ranks has_at_most_16 target_is_sound
    may_name_right all_moves moves is_double_advance is_en_passant pawn_advances pawn_captures pawn_moves man_moves
    is_pseudo_legal captured_square men_after rights_after target_after resets_clock halfmove_after after is_legal
    described rival_starts check_mark san
captures = (refl, refl, refl)

pub moves_are_written : MovesAreWritten
unfolding squares some_square each_square is_between is_of is_man is_clear could_capture attacks is_attacked is_in_check
    is_castling_to castling castle_of castling_needs_empty castling_way_is_empty castling_way_is_safe castles
    king_square right_is_sound rights_are_sound has_one_king no_pawn_on_end_ranks has_at_most_16 target_is_sound
    may_name_right all_moves moves is_double_advance is_en_passant pawn_advances pawn_captures pawn_moves man_moves
    is_pseudo_legal captured_square men_after rights_after target_after resets_clock halfmove_after after is_legal
    described rival_starts check_mark san
moves_are_written = record {
  file = refl;
  rank = refl;
  both = refl;
  pinned = refl;
  capture = refl;
  promotion = refl;
  castling = refl;
  castling_check = castling_check;
  mate = refl;
  stalemate = stalemate;
  knight_captures = captures.0;
  en_passant = captures.1;
  to_knight = captures.2;
}

pub moves_are_shown : MovesAreShown
unfolding squares some_square each_square is_between is_of is_man is_clear could_capture attacks is_attacked
    is_in_check is_castling_to castling king_square right_is_sound rights_are_sound has_one_king no_pawn_on_end_ranks
    has_at_most_16 target_is_sound may_name_right shown_move
moves_are_shown = record { castling = refl; promotion = refl; king_side = refl; queen_side = refl; king = refl }

pub texts_denote_moves : TextsDenoteMoves
unfolding squares some_square each_square is_between is_of is_man is_clear could_capture attacks is_attacked
    is_in_check is_castling_to castling king_square right_is_sound rights_are_sound has_one_king no_pawn_on_end_ranks
    has_at_most_16 target_is_sound may_name_right is_en_passant captured_square described denotes denotes_described
    unmarked
texts_denote_moves = record {
  capture = refl;
  knight = refl;
  promotion = refl;
  castling = refl;
  king_side = refl;
  chess960 = refl;
  knight_captures = refl;
  en_passant = refl;
  to_knight = refl;
}

pub results_are_worded : ResultsAreWorded
unfolding result_text
results_are_worded = record {
  white_mates = refl;
  black_mates = refl;
  stalemate = refl;
  insufficient = refl;
  fivefold = refl;
  seventy_five_moves = refl;
  no_claim = refl;
  threefold = refl;
  fifty_moves = refl;
  both = refl;
}

-- a game without a move has only its result, `*`, and no move number
no_move : tokens_from "4k3/4P3/8/8/8/8/8/4K3 b - - 0 12" [] ≡ Some (codes "*" ∷ [])
unfolding squares some_square each_square is_between is_of is_man is_clear could_capture attacks is_attacked is_in_check
    is_castling_to castling castle_of castling_needs_empty castling_way_is_empty castling_way_is_safe castles
    initial_setup initial_setup_of king_square right_is_sound rights_are_sound has_one_king no_pawn_on_end_ranks
    has_at_most_16 target_is_sound may_name_right all_moves moves is_double_advance is_en_passant pawn_advances
    pawn_captures pawn_moves man_moves is_pseudo_legal captured_square men_after rights_after target_after resets_clock
    halfmove_after after is_legal digits verdict has_bishop_on has_insufficient_material same_men same_rights
    legal_en_passant_square is_same_position repetition_count
no_move = refl

pub moves_are_numbered : MovesAreNumbered
unfolding squares some_square each_square is_between is_of is_man is_clear could_capture attacks is_attacked is_in_check
    is_castling_to castling castle_of castling_needs_empty castling_way_is_empty castling_way_is_safe castles
    initial_setup initial_setup_of king_square right_is_sound rights_are_sound has_one_king no_pawn_on_end_ranks
    has_at_most_16 target_is_sound may_name_right all_moves moves is_double_advance is_en_passant pawn_advances
    pawn_captures pawn_moves man_moves is_pseudo_legal captured_square men_after rights_after target_after resets_clock
    halfmove_after after is_legal described rival_starts check_mark san digits verdict has_bishop_on
    has_insufficient_material
moves_are_numbered = record { white_first = refl; black_first = refl; no_move = no_move }

pub tags_are_in_order : TagsAreInOrder
unfolding squares some_square each_square is_between is_of is_man is_clear could_capture attacks is_attacked is_in_check
    is_castling_to castling castle_of castling_needs_empty castling_way_is_empty castling_way_is_safe castles
    initial_setup initial_setup_of king_square right_is_sound rights_are_sound has_one_king no_pawn_on_end_ranks
    has_at_most_16 target_is_sound may_name_right all_moves moves is_double_advance is_en_passant pawn_advances
    pawn_captures pawn_moves man_moves is_pseudo_legal captured_square men_after rights_after target_after resets_clock
    halfmove_after after is_legal placement_text digits verdict has_bishop_on has_insufficient_material same_men
    same_rights legal_en_passant_square is_same_position repetition_count
tags_are_in_order = record {
  first = λ s. refl;
  mate = refl;
  chess960 = refl;
  normal = refl;
  won = refl;
  lost_on_time = refl;
  drawn_on_time = refl;
  against_the_rules = refl;
  unfinished = refl;
  sixty = refl;
  printable = refl;
}
