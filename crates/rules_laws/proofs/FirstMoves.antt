-- The legal moves of the initial position are the 20 that are listed, in this order, by the rules of either variant: by
-- computation, once for each variant, the list of legal moves is the one named.
use Rattle.std.proofs.Common.{refl}
use Rattle.chess_base.specs.{declared.man.Variant.TheVariants.Normal, declared.man.Variant.TheVariants.Fischerandom, Men.is_of, Men.is_man, Initial.initial_setup_of, MoveList.all_moves, MoveList.moves}
use Rattle.chess_base.specs.Squares.{squares, some_square, each_square, is_between}
use Rattle.chess_base.specs.Attacks.{is_clear, could_capture, attacks, is_attacked, is_in_check}
use Rattle.chess_base.specs.Castling.{is_castling_to, castling, castle_of, castling_needs_empty, castling_way_is_empty, castling_way_is_safe, castles}
use Rattle.chess_base.specs.Moves.{is_double_advance, is_en_passant, pawn_advances, pawn_captures, pawn_moves, man_moves, is_pseudo_legal, captured_square, men_after, rights_after, target_after, resets_clock, halfmove_after, after, is_legal}
use Rattle.rules_laws.specs.FirstMoves.{FirstMovesAreThese}

pub first_moves_are_these : FirstMovesAreThese
unfolding squares some_square each_square is_between is_of is_man is_clear could_capture attacks is_attacked is_in_check
    is_castling_to castling castle_of castling_needs_empty castling_way_is_empty castling_way_is_safe castles
    initial_setup_of all_moves moves is_double_advance is_en_passant pawn_advances pawn_captures pawn_moves man_moves
    is_pseudo_legal captured_square men_after rights_after target_after resets_clock halfmove_after after is_legal
first_moves_are_these Normal = refl
first_moves_are_these Fischerandom = refl
