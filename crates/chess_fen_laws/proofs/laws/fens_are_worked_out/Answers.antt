-- The worked examples of FENs are computed by the definitions, but for two: that the text of six fields denotes its
-- position follows from its reading (denoted-reading of chess_fen's DenotedFen), and the rank's text is the one that is
-- written (rank_text_is of OneRankText).
use Rattle.std.specs.Prelude.{◌∷◌, ◌++◌, replicate, codes, None, ◌≡◌, refl, Ok}
use Rattle.chess_base.specs.{declared.man.Colour.TheVariants.White, declared.man.Kind.TheVariants.Pawn, Castling.king_square, Castling.right_is_sound, Faults.rights_are_sound, Men.is_of, Men.is_man, Initial.man_of, declared.man.Variant.TheVariants.Normal}
use Rattle.chess_base.specs.Attacks.{is_clear, could_capture, attacks, is_attacked, is_in_check}
use Rattle.chess_base.specs.Sound.{has_one_king, no_pawn_on_end_ranks, has_at_most_16, target_is_sound}
use Rattle.chess_base.specs.Squares.{squares, some_square, each_square, is_between}
use Rattle.chess_fen.specs.{Reading.fen_reading_as, Texts.may_name_right}
use Rattle.chess_fen.proofs.shared.Denoted.{denoted-reading}
use Rattle.chess_fen_laws.specs.Examples.{kings_and_pawn}
use Rattle.chess_fen_laws.proofs.OneRankText.{rank_text_is}
use Rattle.chess_fen_laws.proofs.laws.fens_are_worked_out.Goals as goal

-- by computing each condition of a sound position
read_so : fen_reading_as Normal (codes "4k3/8/8/8/8/8/4P3/4K3 b - - 5 39") ≡ Ok kings_and_pawn
unfolding may_name_right has_one_king no_pawn_on_end_ranks has_at_most_16 rights_are_sound right_is_sound
    target_is_sound is_in_check is_attacked attacks could_capture is_clear is_between is_of is_man some_square
    each_square squares
read_so = refl

pub returns-clause-fields : goal.returns-clause-fields
unfolding may_name_right
returns-clause-fields c = (
  refl,
  read_so,
  denoted-reading Normal (codes "4k3/8/8/8/8/8/4P3/4K3 b - - 5 39") kings_and_pawn read_so,
)

pub returns-clause-rank : goal.returns-clause-rank
returns-clause-rank c = rank_text_is (replicate 4 None ++ (man_of White Pawn ∷ replicate 3 None)) refl

pub returns-clause-side : goal.returns-clause-side
unfolding king_square is_man
returns-clause-side c = refl

pub returns-clause-other_side : goal.returns-clause-other_side
unfolding king_square is_man
returns-clause-other_side c = refl

pub returns-clause-file : goal.returns-clause-file
unfolding king_square is_man
returns-clause-file c = refl

pub returns-clause-none : goal.returns-clause-none
unfolding king_square is_man
returns-clause-none c = refl

pub returns-clause-two : goal.returns-clause-two
unfolding king_square is_man
returns-clause-two c = refl

pub returns-clause-no_rook : goal.returns-clause-no_rook
unfolding king_square is_man
returns-clause-no_rook c = refl

pub returns-clause-well : goal.returns-clause-well
unfolding king_square is_man
returns-clause-well c = refl

pub returns-clause-wrongly : goal.returns-clause-wrongly
unfolding king_square is_man
returns-clause-wrongly c = refl

pub returns-clause-queen_side_wrongly : goal.returns-clause-queen_side_wrongly
unfolding king_square is_man
returns-clause-queen_side_wrongly c = refl

pub returns-clause-no_black_rook : goal.returns-clause-no_black_rook
unfolding king_square is_man
returns-clause-no_black_rook c = refl

pub returns-clause-black_side : goal.returns-clause-black_side
unfolding king_square is_man
returns-clause-black_side c = refl

pub returns-clause-black_other_side : goal.returns-clause-black_other_side
unfolding king_square is_man
returns-clause-black_other_side c = refl

pub returns-clause-black_file : goal.returns-clause-black_file
unfolding king_square is_man
returns-clause-black_file c = refl

pub returns-clause-black_well : goal.returns-clause-black_well
unfolding king_square is_man
returns-clause-black_well c = refl

pub returns-clause-black_wrongly : goal.returns-clause-black_wrongly
unfolding king_square is_man
returns-clause-black_wrongly c = refl

pub returns-clause-black_queen_side_wrongly : goal.returns-clause-black_queen_side_wrongly
unfolding king_square is_man
returns-clause-black_queen_side_wrongly c = refl
