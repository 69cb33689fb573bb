-- The verdicts on small endings (EndingsAreJudged), by computation: with the listed definitions unfolded, the FEN is
-- read and its verdict computed, which is the one that is named, or none.
use Rattle.std.proofs.Common.{◌≡◌, Some, None, refl}
use Rattle.chess_base.specs.Attacks.{is_clear, could_capture, attacks, is_attacked, is_in_check}
use Rattle.chess_base.specs.Castling.{king_square, right_is_sound, is_castling_to, castling, castle_of, castling_needs_empty, castling_way_is_empty, castling_way_is_safe, castles}
use Rattle.chess_base.specs.{Faults.rights_are_sound, Men.is_of, Men.is_man, MoveList.all_moves, MoveList.moves}
use Rattle.chess_base.specs.Moves.{is_double_advance, is_en_passant, pawn_advances, pawn_captures, pawn_moves, man_moves, is_pseudo_legal, captured_square, men_after, rights_after, target_after, resets_clock, halfmove_after, after, is_legal}
use Rattle.chess_base.specs.Sound.{has_one_king, no_pawn_on_end_ranks, has_at_most_16, target_is_sound}
use Rattle.chess_base.specs.Squares.{squares, some_square, each_square, is_between}
use Rattle.chess_fen.specs.Texts.{may_name_right}
use Rattle.chess_game.specs.Ends.{verdict, has_bishop_on, has_insufficient_material}
use Rattle.chess_game.specs.Same.{is_same_position, legal_en_passant_square, repetition_count, same_men, same_rights}
use Rattle.chess_game.specs.declared.verdicts.Verdict.TheVariants.{InsufficientMaterial, SeventyFiveMoves}
use Rattle.rules_laws.specs.KnownCounts.{EndingsAreJudged, IsJudged, judged_fen}

-- bishops on squares of one colour are insufficient: three on black squares, and two on white squares
bishops : IsJudged "4kb2/8/8/8/8/8/8/B1B1K3 w - - 0 1" InsufficientMaterial
    × IsJudged "4k1b1/8/8/8/8/8/8/4KB2 w - - 0 1" InsufficientMaterial
unfolding squares some_square each_square is_between is_of is_man is_clear could_capture attacks is_attacked is_in_check
    king_square right_is_sound rights_are_sound has_one_king no_pawn_on_end_ranks has_at_most_16 target_is_sound
    may_name_right is_castling_to castling castle_of castling_needs_empty castling_way_is_empty castling_way_is_safe
    castles is_double_advance is_en_passant pawn_advances pawn_captures pawn_moves man_moves is_pseudo_legal
    captured_square men_after rights_after target_after resets_clock halfmove_after after is_legal all_moves moves
    verdict has_bishop_on has_insufficient_material
bishops = (refl, refl)

-- the 75-move rule ends a game at 150 half-moves, not at 149, but insufficient material comes first
clocks : IsJudged "4k3/8/8/8/8/8/8/R3K3 w - - 150 1" SeventyFiveMoves
    × (judged_fen "4k3/8/8/8/8/8/8/R3K3 w - - 149 1" ≡ Some None)
    × IsJudged "4k3/8/8/8/8/8/8/4K3 w - - 150 1" InsufficientMaterial
unfolding squares some_square each_square is_between is_of is_man is_clear could_capture attacks is_attacked is_in_check
    king_square right_is_sound rights_are_sound has_one_king no_pawn_on_end_ranks has_at_most_16 target_is_sound
    may_name_right is_castling_to castling castle_of castling_needs_empty castling_way_is_empty castling_way_is_safe
    castles is_double_advance is_en_passant pawn_advances pawn_captures pawn_moves man_moves is_pseudo_legal
    captured_square men_after rights_after target_after resets_clock halfmove_after after is_legal all_moves moves
    verdict has_bishop_on has_insufficient_material same_men same_rights legal_en_passant_square is_same_position
    repetition_count
clocks = (refl, refl, refl)

pub endings_are_judged : EndingsAreJudged
unfolding squares some_square each_square is_between is_of is_man is_clear could_capture attacks is_attacked is_in_check
    king_square right_is_sound rights_are_sound has_one_king no_pawn_on_end_ranks has_at_most_16 target_is_sound
    may_name_right is_castling_to castling castle_of castling_needs_empty castling_way_is_empty castling_way_is_safe
    castles is_double_advance is_en_passant pawn_advances pawn_captures pawn_moves man_moves is_pseudo_legal
    captured_square men_after rights_after target_after resets_clock halfmove_after after is_legal all_moves moves
    verdict has_bishop_on has_insufficient_material
endings_are_judged = record {
  mate = refl;
  stalemate = refl;
  kings = refl;
  bishop = refl;
  knight = refl;
  bishops = refl;
  three_bishops = bishops.0;
  on_white_squares = bishops.1;
  after_150 = clocks.0;
  after_149 = clocks.1;
  kings_after_150 = clocks.2;
}
