-- An example: after 1 e4, with `san` on in Black's engine, Black's first turn is opened by `e4`, the clocks and `go`.
-- It is proved by computation (`refl`); `unfolding` names the definitions that are opened for it.
use Rattle.std.proofs.Common.{[], ◌∷◌, refl}
use Rattle.std.specs.Fmt.{digits}
use Rattle.chess_base.specs.Attacks.{is_clear, could_capture, attacks, is_attacked, is_in_check}
use Rattle.chess_base.specs.ByColour.{by_colour}
use Rattle.chess_base.specs.Castling.{is_castling_to, castling, castle_of, castling_needs_empty, castling_way_is_empty, castling_way_is_safe, castles}
use Rattle.chess_base.specs.{Initial.initial_setup, Initial.initial_setup_of, Men.is_of, Men.is_man, MoveList.all_moves, MoveList.moves, declared.man.Colour.TheVariants.Black}
use Rattle.chess_base.specs.Moves.{is_double_advance, is_en_passant, pawn_advances, pawn_captures, pawn_moves, man_moves, is_pseudo_legal, captured_square, men_after, rights_after, target_after, resets_clock, halfmove_after, after, is_legal}
use Rattle.chess_base.specs.Squares.{squares, some_square, each_square, is_between}
use Rattle.chess_text.specs.{Moves.described, San.check_mark, San.rival_starts, San.san}
use Rattle.cecp_engine.specs.Items.{item_of, items_of, takes}
use Rattle.cecp_engine.specs.Levels.{allotted}
use Rattle.chess_match.specs.{Effects.opening, Lines.bytes_of}
use Rattle.chess_match_laws.specs.Worked.{AreSentAs, after_e4, seat_of, worked_rules}

pub in_san : AreSentAs (opening worked_rules
    (record after_e4 { seat = by_colour (seat_of "" (1001 ∷ [])) (seat_of "san=1" []) }) Black)
    "e4\ntime 30000\notim 29899\ngo\n"
unfolding squares some_square each_square is_between is_of is_man is_clear could_capture attacks is_attacked is_in_check
    is_castling_to castling castle_of castling_needs_empty castling_way_is_empty castling_way_is_safe castles
    initial_setup initial_setup_of all_moves moves is_double_advance is_en_passant pawn_advances pawn_captures
    pawn_moves man_moves is_pseudo_legal captured_square men_after rights_after target_after resets_clock halfmove_after
    after is_legal described rival_starts check_mark san allotted bytes_of digits item_of items_of takes
in_san = refl
