-- Which known positions are the same for repetition, and which only look alike (PositionsAreTheSame), by computation;
-- and positions that are the same have the same piece on each square (TheSameHaveTheSamePieces), since the test goes
-- over all squares and compares colour and kind.
use Rattle.std.proofs.Common.{◌≡◌, [], ◌∷◌, ◌++◌, Option, Some, None, Bool, true, false, ◌&&◌, refl, ap, arith}
use Rattle.std.proofs.lemmas.Bool.{and_parts}
use Rattle.std.specs.Option.{option_eq}
use Rattle.chess_base.specs.Attacks.{is_clear, could_capture, attacks, is_attacked, is_in_check}
use Rattle.chess_base.specs.Castling.{king_square, right_is_sound, is_castling_to, castling, castle_of, castling_needs_empty, castling_way_is_empty, castling_way_is_safe, castles}
use Rattle.chess_base.specs.{Faults.rights_are_sound, Initial.initial_setup, Initial.initial_setup_of, Men.is_of, Men.is_man, MoveList.all_moves, MoveList.moves}
use Rattle.chess_base.specs.Moves.{is_double_advance, is_en_passant, pawn_advances, pawn_captures, pawn_moves, man_moves, is_pseudo_legal, captured_square, men_after, rights_after, target_after, resets_clock, halfmove_after, after, is_legal}
use Rattle.chess_base.specs.Sound.{has_one_king, no_pawn_on_end_ranks, has_at_most_16, target_is_sound}
use Rattle.chess_base.specs.Squares.{squares, some_square, each_square, is_between}
use Rattle.chess_fen.specs.Texts.{may_name_right}
use Rattle.chess_base.specs.{declared.man.Man.Man, Men.man_at, Men.same_colour, Men.same_kind}
use Rattle.chess_base.proofs.{shared.Men.same_colour-true, shared.Men.same_kind-true, shared.Squares.each_square-at}
use Rattle.chess_game.specs.Same.{same_man, same_men, same_rights, legal_en_passant_square, is_same_position}
use Rattle.rules_laws.specs.KnownGames.{move_by}
use Rattle.rules_laws.specs.KnownPositions.{PositionsAreTheSame, TheSameHaveTheSamePieces, are_same_after, are_same_fens, open_game}

-- a target doesn't matter where White's pawn on e5 is pinned, but does where it is not; and positions with different
-- rights to castle differ
fens : (are_same_fens "4k3/4r3/8/4Pp2/8/8/8/4K3 w - f6 0 1" "4k3/4r3/8/4Pp2/8/8/8/4K3 w - - 0 1" ≡ Some true)
    × (are_same_fens "4k3/8/8/4Pp2/8/8/8/4K3 w - f6 0 1" "4k3/8/8/4Pp2/8/8/8/4K3 w - - 0 1" ≡ Some false)
    × (are_same_fens "4k3/8/8/8/8/8/8/R3K2R w KQ - 0 1" "4k3/8/8/8/8/8/8/R3K2R w K - 0 1" ≡ Some false)
    × (are_same_fens "4k3/8/8/8/8/8/8/R3K2R w KQ - 0 1" "4k3/8/8/8/8/8/8/R3K2R w Q - 0 1" ≡ Some false)
    × (are_same_fens "r3k2r/8/8/8/8/8/8/4K3 w kq - 0 1" "r3k2r/8/8/8/8/8/8/4K3 w k - 0 1" ≡ Some false)
unfolding squares some_square each_square is_between is_of is_man is_clear could_capture attacks is_attacked is_in_check
    is_castling_to castling castle_of castling_needs_empty castling_way_is_empty castling_way_is_safe castles
    is_double_advance is_en_passant pawn_advances pawn_captures pawn_moves man_moves is_pseudo_legal captured_square
    men_after rights_after target_after resets_clock halfmove_after after is_legal all_moves moves king_square
    right_is_sound rights_are_sound has_one_king no_pawn_on_end_ranks has_at_most_16 target_is_sound may_name_right
    same_men same_rights legal_en_passant_square is_same_position
fens = (refl, refl, refl, refl, refl)

-- after the kings have gone there and back, the position is another, without rights to castle
rights : are_same_after open_game (open_game ++ move_by "e1" "e2" ∷ move_by "e8" "e7" ∷ move_by "e2" "e1"
    ∷ move_by "e7" "e8" ∷ []) ≡ false
unfolding squares some_square each_square is_between is_of is_man is_clear could_capture attacks is_attacked is_in_check
    is_castling_to castling castle_of castling_needs_empty castling_way_is_empty castling_way_is_safe castles
    is_double_advance is_en_passant pawn_advances pawn_captures pawn_moves man_moves is_pseudo_legal captured_square
    men_after rights_after target_after resets_clock halfmove_after after is_legal initial_setup initial_setup_of
    all_moves moves same_men same_rights legal_en_passant_square is_same_position
rights = refl

pub positions_are_the_same : PositionsAreTheSame
unfolding squares some_square each_square is_between is_of is_man is_clear could_capture attacks is_attacked is_in_check
    is_castling_to castling castle_of castling_needs_empty castling_way_is_empty castling_way_is_safe castles
    is_double_advance is_en_passant pawn_advances pawn_captures pawn_moves man_moves is_pseudo_legal captured_square
    men_after rights_after target_after resets_clock halfmove_after after is_legal initial_setup initial_setup_of
    all_moves moves same_men same_rights legal_en_passant_square is_same_position
positions_are_the_same = record {
  knights = refl;
  target = refl;
  en_passant = refl;
  pinned = fens.0;
  not_pinned = fens.1;
  side = refl;
  rights = rights;
  queen_side = fens.2;
  king_side = fens.3;
  black = fens.4;
}

-- ---- the pieces

-- two optional values that a test finds equal are, if it finds only equal values so
equal_options : {A : Type 0} (test : A → A → Bool) (o r : Option A) → ((x y : A) → test x y ≡ true → x ≡ y)
    → option_eq test o r ≡ true → o ≡ r
equal_options test None None h e = refl
equal_options test None (Some y) h e = cc
equal_options test (Some x) None h e = cc
equal_options test (Some x) (Some y) h e = ap (λ z. Some z) (h x y e)

one_man : (x y : Man) → x.colour ≡ y.colour → x.kind ≡ y.kind → x ≡ y
one_man x y colours kinds = (λ i. record { colour = colours i; kind = kinds i })

-- pieces with the same colour and kind are equal
equal_men : (x y : Man) → (same_colour x.colour y.colour && same_kind x.kind y.kind) ≡ true → x ≡ y
equal_men x y e =
    let both = and_parts (same_colour x.colour y.colour) (same_kind x.kind y.kind) e in
    one_man x y (same_colour-true x.colour y.colour both.0) (same_kind-true x.kind y.kind both.1)

-- positions that are the same have equal pieces on each square, from the test of all squares
pub the_same_have_the_same_pieces : TheSameHaveTheSamePieces
unfolding is_same_position same_men
the_same_have_the_same_pieces p q s e below =
    let pieces : same_men p.men q.men ≡ true = grind (arith, e) in
    equal_options (λ x y. same_colour x.colour y.colour && same_kind x.kind y.kind) (man_at p.men s) (man_at q.men s)
    equal_men (each_square-at (λ t. same_man (man_at p.men t) (man_at q.men t)) pieces s below)
