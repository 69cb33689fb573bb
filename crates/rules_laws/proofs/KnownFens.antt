-- Each listed FEN is refused for the named fault, or accepted (and written as named), by computation: with the listed
-- definitions unfolded, both sides of each statement compute to the same value.
use Rattle.std.proofs.Common.{refl}
use Rattle.std.specs.Fmt.{digits}
use Rattle.chess_base.specs.Attacks.{is_clear, could_capture, attacks, is_attacked, is_in_check}
use Rattle.chess_base.specs.{Castling.king_square, Castling.right_is_sound, Faults.rights_are_sound, Men.is_of, Men.is_man}
use Rattle.chess_base.specs.Sound.{has_one_king, no_pawn_on_end_ranks, has_at_most_16, target_is_sound}
use Rattle.chess_base.specs.Squares.{squares, some_square, each_square, is_between}
use Rattle.chess_fen.specs.{Texts.may_name_right, Writing.placement_text}
use Rattle.rules_laws.specs.KnownPositions.{FensAreRefused, IsWrittenAs}

-- counters that are left out are written as 0 and 1
counters_added : IsWrittenAs "4k3/8/8/8/8/8/8/4K3 w - -" "4k3/8/8/8/8/8/8/4K3 w - - 0 1"
unfolding squares some_square each_square is_between is_of is_man is_clear could_capture attacks is_attacked
    is_in_check king_square right_is_sound rights_are_sound has_one_king no_pawn_on_end_ranks has_at_most_16
    target_is_sound may_name_right placement_text digits
counters_added = refl

pub fens_are_refused : FensAreRefused
unfolding squares some_square each_square is_between is_of is_man is_clear could_capture attacks is_attacked
    is_in_check king_square right_is_sound rights_are_sound has_one_king no_pawn_on_end_ranks has_at_most_16
    target_is_sound may_name_right placement_text digits
fens_are_refused = record {
  no_king = refl;
  no_white_king = refl;
  two_kings = refl;
  pawn_on_8 = refl;
  pawn_on_1 = refl;
  white_pawn_on_1 = refl;
  black_pawn_on_8 = refl;
  seventeen = refl;
  sixteen = refl;
  black_seventeen = refl;
  no_rook = refl;
  no_king_on_e1 = refl;
  right = refl;
  no_rook_on_a1 = refl;
  no_rook_on_h8 = refl;
  no_rook_on_a8 = refl;
  all_rights = refl;
  no_pawn = refl;
  start_taken = refl;
  target_taken = refl;
  own_pawn = refl;
  target = refl;
  target_on_a6 = refl;
  target_on_h6 = refl;
  target_on_3 = refl;
  other_side = refl;
  no_white_pawn = refl;
  check = refl;
  in_check = refl;
  white_in_check = refl;
  nine_squares = refl;
  nine_ranks = refl;
  seven_squares = refl;
  seven_ranks = refl;
  digit_0 = refl;
  no_side = refl;
  letter_twice = refl;
  files_letter = refl;
  target_on_4 = refl;
  counter = refl;
  one_counter = refl;
  seven_fields = refl;
  no_counters = refl;
  counters_added = counters_added;
  two_spaces = refl;
  by_a_tab = refl;
  counters_before_kings = refl;
  rank_4_before_kings = refl;
  rank_5_before_kings = refl;
  file_i_before_kings = refl;
  kings_before_rank_3 = refl;
  kings_before_pawns = refl;
  pawns_before_pieces = refl;
  pieces_before_castling = refl;
  castling_before_target = refl;
  target_before_check = refl;
  number_0 = refl;
  number_1 = refl;
  six_digits = refl;
  seven_digits = refl;
  number_of_six = refl;
  number_of_seven = refl;
  outermost = refl;
  inner = refl;
  on_edges = refl;
  four_rights = refl;
  no_rook_of_chess960 = refl;
  named_twice = refl;
  two_on_one_side = refl;
  no_black_rook = refl;
  kings_file = refl;
  letter_before_kings = refl;
  kings_before_rights = refl;
}
