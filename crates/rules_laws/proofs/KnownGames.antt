-- The scholar's mate and the fool's mate, by computation: each line is legal, and at its end no move is legal and the
-- side on move is in check. With the listed definitions unfolded, both sides of each equation compute to one value.
use Rattle.std.proofs.Common.{◌≡◌, true, refl, ◌∙◌, List, Some}
use Rattle.chess_base.specs.{declared.man.Colour.Colour, declared.man.Colour.TheVariants.White, declared.man.Colour.TheVariants.Black, declared.man.Move.Move, ByColour.by_colour, Men.is_of, Men.is_man, Men.other, Initial.initial_setup, Initial.initial_setup_of, MoveList.all_moves, MoveList.moves}
use Rattle.chess_base.specs.Squares.{squares, some_square, each_square, is_between}
use Rattle.chess_base.specs.Attacks.{is_clear, could_capture, attacks, is_attacked, is_in_check}
use Rattle.chess_base.specs.Castling.{is_castling_to, castling, castle_of, castling_needs_empty, castling_way_is_empty, castling_way_is_safe, castles}
use Rattle.chess_base.specs.Moves.{is_double_advance, is_en_passant, pawn_advances, pawn_captures, pawn_moves, man_moves, is_pseudo_legal, captured_square, men_after, rights_after, target_after, resets_clock, halfmove_after, after, is_legal}
use Rattle.chess_game.specs.{Ends.verdict, declared.verdicts.Verdict.TheVariants.WhiteMates, declared.verdicts.Verdict.TheVariants.BlackMates, Line.position_after, Line.IsLine}
use Rattle.rules_laws.specs.KnownGames.{scholars_mate, fools_mate, KnownGamesEnd}
use Rattle.rules_laws.proofs.NoMove.{has_none, some_numbers}

scholars : IsLine initial_setup scholars_mate
unfolding squares some_square each_square is_between is_of is_man is_clear could_capture attacks is_attacked is_in_check
    is_castling_to castling castle_of castling_needs_empty castling_way_is_empty castling_way_is_safe castles
    initial_setup initial_setup_of is_double_advance is_en_passant pawn_advances pawn_captures pawn_moves man_moves
    is_pseudo_legal captured_square men_after rights_after target_after resets_clock halfmove_after after is_legal
scholars = (refl, (refl, (refl, (refl, (refl, (refl, (refl, tt)))))))

fools : IsLine initial_setup fools_mate
unfolding squares some_square each_square is_between is_of is_man is_clear could_capture attacks is_attacked is_in_check
    is_castling_to castling castle_of castling_needs_empty castling_way_is_empty castling_way_is_safe castles
    initial_setup initial_setup_of is_double_advance is_en_passant pawn_advances pawn_captures pawn_moves man_moves
    is_pseudo_legal captured_square men_after rights_after target_after resets_clock halfmove_after after is_legal
fools = (refl, (refl, (refl, (refl, tt))))

scholars_none : has_none (position_after initial_setup scholars_mate) ≡ true
unfolding squares some_square each_square is_between is_of is_man is_clear could_capture attacks is_attacked is_in_check
    is_castling_to castling castle_of castling_needs_empty castling_way_is_empty castling_way_is_safe castles
    initial_setup initial_setup_of all_moves moves is_double_advance is_en_passant pawn_advances pawn_captures
    pawn_moves man_moves is_pseudo_legal captured_square men_after rights_after target_after resets_clock halfmove_after
    after is_legal
scholars_none = refl

fools_none : has_none (position_after initial_setup fools_mate) ≡ true
unfolding squares some_square each_square is_between is_of is_man is_clear could_capture attacks is_attacked is_in_check
    is_castling_to castling castle_of castling_needs_empty castling_way_is_empty castling_way_is_safe castles
    initial_setup initial_setup_of all_moves moves is_double_advance is_en_passant pawn_advances pawn_captures
    pawn_moves man_moves is_pseudo_legal captured_square men_after rights_after target_after resets_clock halfmove_after
    after is_legal
fools_none = refl

scholars_check : is_in_check (position_after initial_setup scholars_mate).men Black ≡ true
unfolding squares some_square each_square is_between is_of is_man is_clear could_capture attacks is_attacked is_in_check
    is_castling_to castling castle_of initial_setup initial_setup_of is_double_advance is_en_passant captured_square
    men_after rights_after target_after resets_clock halfmove_after after
scholars_check = refl

fools_check : is_in_check (position_after initial_setup fools_mate).men White ≡ true
unfolding squares some_square each_square is_between is_of is_man is_clear could_capture attacks is_attacked is_in_check
    is_castling_to castling castle_of initial_setup initial_setup_of is_double_advance is_en_passant captured_square
    men_after rights_after target_after resets_clock halfmove_after after
fools_check = refl

scholars_side : (position_after initial_setup scholars_mate).side ≡ Black
unfolding after initial_setup initial_setup_of
scholars_side = refl

fools_side : (position_after initial_setup fools_mate).side ≡ White
unfolding after initial_setup initial_setup_of
fools_side = refl

-- a game at whose end colour c is on move, in check and without a legal move is mate by the other colour
mated_by : (ms : List Move) (c : Colour) → has_none (position_after initial_setup ms) ≡ true
    → is_in_check (position_after initial_setup ms).men c ≡ true → (position_after initial_setup ms).side ≡ c
    → verdict initial_setup ms ≡ Some (by_colour WhiteMates BlackMates (other c))
mated_by ms c none check side =
    some_numbers.is initial_setup ms ∙ rw (none, side, check) refl

pub known_games_end : KnownGamesEnd
known_games_end = record {
  scholars = scholars;
  white_mates = mated_by scholars_mate Black scholars_none scholars_check scholars_side;
  fools = fools;
  black_mates = mated_by fools_mate White fools_none fools_check fools_side;
}
