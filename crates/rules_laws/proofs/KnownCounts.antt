-- How many legal moves six positions have (MovesAreAsMany), and in which of Chess960 the king may castle
-- (CastlingIsKnown), by computation: with the listed definitions unfolded, both sides of each equation are one value.
use Rattle.std.proofs.Common.{refl}
use Rattle.chess_base.specs.Attacks.{is_clear, could_capture, attacks, is_attacked, is_in_check}
use Rattle.chess_base.specs.Castling.{king_square, right_is_sound, is_castling_to, castling, castle_of, castling_needs_empty, castling_way_is_empty, castling_way_is_safe, castles}
use Rattle.chess_base.specs.{Faults.rights_are_sound, Men.is_of, Men.is_man, MoveList.all_moves, MoveList.moves, declared.man.Variant.TheVariants.Normal, declared.man.Variant.TheVariants.Fischerandom}
use Rattle.chess_base.specs.Moves.{is_double_advance, is_en_passant, pawn_advances, pawn_captures, pawn_moves, man_moves, is_pseudo_legal, captured_square, men_after, rights_after, target_after, resets_clock, halfmove_after, after, is_legal}
use Rattle.chess_base.specs.Sound.{has_one_king, no_pawn_on_end_ranks, has_at_most_16, target_is_sound}
use Rattle.chess_base.specs.Squares.{squares, some_square, each_square, is_between}
use Rattle.chess_fen.specs.Texts.{may_name_right}
use Rattle.rules_laws.specs.KnownCounts.{CastlingIsKnown, HasMoves, MovesAreAsMany, castles_onto_rook, may_castle, pawn_blocked, rooks_beside, third_position, with_promotions}

third : HasMoves Normal third_position 14
unfolding squares some_square each_square is_between is_of is_man is_clear could_capture attacks is_attacked is_in_check
    king_square right_is_sound rights_are_sound has_one_king no_pawn_on_end_ranks has_at_most_16 target_is_sound
    may_name_right is_castling_to castling castle_of castling_needs_empty castling_way_is_empty castling_way_is_safe
    castles is_double_advance is_en_passant pawn_advances pawn_captures pawn_moves man_moves is_pseudo_legal
    captured_square men_after rights_after target_after resets_clock halfmove_after after is_legal all_moves moves
third = refl

promotions : HasMoves Normal with_promotions 24
unfolding squares some_square each_square is_between is_of is_man is_clear could_capture attacks is_attacked is_in_check
    king_square right_is_sound rights_are_sound has_one_king no_pawn_on_end_ranks has_at_most_16 target_is_sound
    may_name_right is_castling_to castling castle_of castling_needs_empty castling_way_is_empty castling_way_is_safe
    castles is_double_advance is_en_passant pawn_advances pawn_captures pawn_moves man_moves is_pseudo_legal
    captured_square men_after rights_after target_after resets_clock halfmove_after after is_legal all_moves moves
promotions = refl

beside : HasMoves Fischerandom rooks_beside 20
unfolding squares some_square each_square is_between is_of is_man is_clear could_capture attacks is_attacked is_in_check
    king_square right_is_sound rights_are_sound has_one_king no_pawn_on_end_ranks has_at_most_16 target_is_sound
    may_name_right is_castling_to castling castle_of castling_needs_empty castling_way_is_empty castling_way_is_safe
    castles is_double_advance is_en_passant pawn_advances pawn_captures pawn_moves man_moves is_pseudo_legal
    captured_square men_after rights_after target_after resets_clock halfmove_after after is_legal all_moves moves
beside = refl

castled : HasMoves Fischerandom may_castle 12
unfolding squares some_square each_square is_between is_of is_man is_clear could_capture attacks is_attacked is_in_check
    king_square right_is_sound rights_are_sound has_one_king no_pawn_on_end_ranks has_at_most_16 target_is_sound
    may_name_right is_castling_to castling castle_of castling_needs_empty castling_way_is_empty castling_way_is_safe
    castles is_double_advance is_en_passant pawn_advances pawn_captures pawn_moves man_moves is_pseudo_legal
    captured_square men_after rights_after target_after resets_clock halfmove_after after is_legal all_moves moves
castled = refl

castled_onto : HasMoves Fischerandom castles_onto_rook 13
unfolding squares some_square each_square is_between is_of is_man is_clear could_capture attacks is_attacked is_in_check
    king_square right_is_sound rights_are_sound has_one_king no_pawn_on_end_ranks has_at_most_16 target_is_sound
    may_name_right is_castling_to castling castle_of castling_needs_empty castling_way_is_empty castling_way_is_safe
    castles is_double_advance is_en_passant pawn_advances pawn_captures pawn_moves man_moves is_pseudo_legal
    captured_square men_after rights_after target_after resets_clock halfmove_after after is_legal all_moves moves
castled_onto = refl

blocked : HasMoves Normal pawn_blocked 2
unfolding squares some_square each_square is_between is_of is_man is_clear could_capture attacks is_attacked is_in_check
    king_square right_is_sound rights_are_sound has_one_king no_pawn_on_end_ranks has_at_most_16 target_is_sound
    may_name_right is_castling_to castling castle_of castling_needs_empty castling_way_is_empty castling_way_is_safe
    castles is_double_advance is_en_passant pawn_advances pawn_captures pawn_moves man_moves is_pseudo_legal
    captured_square men_after rights_after target_after resets_clock halfmove_after after is_legal all_moves moves
blocked = refl

pub moves_are_as_many : MovesAreAsMany
moves_are_as_many = record {
  third = third;
  promotions = promotions;
  beside = beside;
  castles = castled;
  castles_onto = castled_onto;
  blocked = blocked;
}

pub castling_is_known : CastlingIsKnown
unfolding squares some_square each_square is_between is_of is_man is_clear could_capture attacks is_attacked is_in_check
    king_square right_is_sound rights_are_sound has_one_king no_pawn_on_end_ranks has_at_most_16 target_is_sound
    may_name_right is_castling_to castling castle_of castling_needs_empty castling_way_is_empty castling_way_is_safe
    castles is_double_advance is_en_passant pawn_advances pawn_captures pawn_moves man_moves is_pseudo_legal
    captured_square men_after rights_after target_after resets_clock halfmove_after after is_legal
castling_is_known = record {
  king_on_c1 = refl;
  king_on_g1 = refl;
  rook_on_d1 = refl;
  way_attacked = refl;
  way_blocked = refl;
  uncovered = refl;
}
