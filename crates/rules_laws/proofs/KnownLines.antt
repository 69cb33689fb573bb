-- Eight lines are legal and lead to their FENs, by computation: with the listed definitions unfolded, each move's test
-- computes to true, and the FEN of the position at the end to the one that is named.
use Rattle.std.proofs.Common.{refl}
use Rattle.std.specs.Fmt.{digits}
use Rattle.chess_base.specs.Attacks.{is_clear, could_capture, attacks, is_attacked, is_in_check}
use Rattle.chess_base.specs.Castling.{is_castling_to, castling, castle_of, castling_needs_empty, castling_way_is_empty, castling_way_is_safe, castles}
use Rattle.chess_base.specs.{Initial.initial_setup, Initial.initial_setup_of, Men.is_of, Men.is_man}
use Rattle.chess_base.specs.Moves.{is_double_advance, is_en_passant, pawn_advances, pawn_captures, pawn_moves, man_moves, is_pseudo_legal, captured_square, men_after, rights_after, target_after, resets_clock, halfmove_after, after, is_legal}
use Rattle.chess_base.specs.Squares.{squares, some_square, each_square, is_between}
use Rattle.chess_fen.specs.Writing.{placement_text}
use Rattle.rules_laws.specs.KnownPositions.{LinesLeadToFens}

pub lines_lead_to_fens : LinesLeadToFens
unfolding squares some_square each_square is_between is_of is_man is_clear could_capture attacks is_attacked is_in_check
    is_castling_to castling castle_of castling_needs_empty castling_way_is_empty castling_way_is_safe castles
    is_double_advance is_en_passant pawn_advances pawn_captures pawn_moves man_moves is_pseudo_legal captured_square
    men_after rights_after target_after resets_clock halfmove_after after is_legal initial_setup initial_setup_of
    placement_text digits
lines_lead_to_fens = record {
  pawn = ((refl, tt), refl);
  answer = ((refl, (refl, tt)), refl);
  knight = ((refl, (refl, (refl, tt))), refl);
  castling = ((refl, (refl, (refl, (refl, (refl, (refl, (refl, (refl, (refl, (refl, tt)))))))))), refl);
  en_passant = ((refl, (refl, (refl, (refl, (refl, tt))))), refl);
  promotion = ((refl, (refl, (refl, (refl, (refl, (refl, (refl, (refl, (refl, tt))))))))), refl);
  rook_moved = ((refl, (refl, (refl, tt))), refl);
  rook_captured = ((refl, (refl, (refl, (refl, (refl, tt))))), refl);
}
