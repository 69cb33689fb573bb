-- What engines are sent at the end of a match, and to which side it is sent first, in examples. Each is proved by
-- computation (`refl`); `unfolding` names the definitions that are opened for it.
use Rattle.std.proofs.Common.{◌≡◌, [], ◌∷◌, Some, codes, refl}
use Rattle.std.specs.Fmt.{digits}
use Rattle.chess_base.specs.Attacks.{is_clear, could_capture, attacks, is_attacked, is_in_check}
use Rattle.chess_base.specs.Castling.{king_square, right_is_sound, is_castling_to, castling, castle_of, castling_needs_empty, castling_way_is_empty, castling_way_is_safe, castles}
use Rattle.chess_base.specs.{Faults.rights_are_sound, Initial.initial_setup, Initial.initial_setup_of, Men.is_of, Men.is_man, MoveList.all_moves, MoveList.moves, declared.man.Colour.TheVariants.White, declared.man.Colour.TheVariants.Black}
use Rattle.chess_base.specs.Moves.{is_double_advance, is_en_passant, pawn_advances, pawn_captures, pawn_moves, man_moves, is_pseudo_legal, captured_square, men_after, rights_after, target_after, resets_clock, halfmove_after, after, is_legal}
use Rattle.chess_base.specs.Sound.{has_one_king, no_pawn_on_end_ranks, has_at_most_16, target_is_sound}
use Rattle.chess_base.specs.Squares.{squares, some_square, each_square, is_between}
use Rattle.chess_fen.specs.{Texts.may_name_right, Writing.placement_text}
use Rattle.chess_game.specs.Ends.{has_bishop_on, has_insufficient_material, result_text, verdict}
use Rattle.chess_game.specs.Same.{is_same_position, legal_en_passant_square, repetition_count, same_men, same_rights}
use Rattle.chess_text.specs.San.{shown_move}
use Rattle.text_lines.specs.Words.{argument_of, command_number}
use Rattle.cecp_engine.specs.EngineLines.{kind_of}
use Rattle.cecp_engine.specs.Items.{item_of, items_of, takes}
use Rattle.cecp_engine.specs.Levels.{allotted}
use Rattle.chess_match.specs.{Effects.BeforeMove, Effects.Handshake, Lines.bytes_of, Lines.setup_lines, Rules.start_fen}
use Rattle.chess_match_laws.specs.Worked.{AreSentAs}
use Rattle.chess_match_laws.specs.WorkedTurns.{EndLinesAreSent, broken, match_in, resigned, resigned_later, sent_at_fault, sides_due}

white : AreSentAs (resigned.to White) "result 0-1 {White resigns}\nquit\n"
unfolding squares some_square each_square is_between is_of is_man is_clear could_capture attacks is_attacked is_in_check
    is_castling_to castling castle_of castling_needs_empty castling_way_is_empty castling_way_is_safe castles
    initial_setup initial_setup_of all_moves moves is_double_advance is_en_passant pawn_advances pawn_captures
    pawn_moves man_moves is_pseudo_legal captured_square men_after rights_after target_after resets_clock halfmove_after
    after is_legal same_men same_rights legal_en_passant_square is_same_position repetition_count has_bishop_on
    has_insufficient_material verdict result_text allotted argument_of command_number kind_of bytes_of
white = refl

black : AreSentAs (resigned.to Black) "result 0-1 {White resigns}\nquit\n"
unfolding squares some_square each_square is_between is_of is_man is_clear could_capture attacks is_attacked is_in_check
    is_castling_to castling castle_of castling_needs_empty castling_way_is_empty castling_way_is_safe castles
    initial_setup initial_setup_of all_moves moves is_double_advance is_en_passant pawn_advances pawn_captures
    pawn_moves man_moves is_pseudo_legal captured_square men_after rights_after target_after resets_clock halfmove_after
    after is_legal same_men same_rights legal_en_passant_square is_same_position repetition_count has_bishop_on
    has_insufficient_material verdict result_text allotted argument_of command_number kind_of bytes_of
black = refl

mover : AreSentAs (resigned_later.to White) "result 0-1 {White resigns}\nquit\n"
unfolding squares some_square each_square is_between is_of is_man is_clear could_capture attacks is_attacked is_in_check
    is_castling_to castling castle_of castling_needs_empty castling_way_is_empty castling_way_is_safe castles
    initial_setup initial_setup_of all_moves moves is_double_advance is_en_passant pawn_advances pawn_captures
    pawn_moves man_moves is_pseudo_legal captured_square men_after rights_after target_after resets_clock halfmove_after
    after is_legal same_men same_rights legal_en_passant_square is_same_position repetition_count has_bishop_on
    has_insufficient_material verdict result_text allotted argument_of command_number kind_of bytes_of
mover = refl

owed : AreSentAs (resigned_later.to Black) "usermove e2e4\nresult 0-1 {White resigns}\nquit\n"
unfolding squares some_square each_square is_between is_of is_man is_clear could_capture attacks is_attacked is_in_check
    is_castling_to castling castle_of castling_needs_empty castling_way_is_empty castling_way_is_safe castles
    initial_setup initial_setup_of all_moves moves is_double_advance is_en_passant pawn_advances pawn_captures
    pawn_moves man_moves is_pseudo_legal captured_square men_after rights_after target_after resets_clock halfmove_after
    after is_legal same_men same_rights legal_en_passant_square is_same_position repetition_count has_bishop_on
    has_insufficient_material verdict result_text allotted argument_of command_number kind_of bytes_of item_of items_of takes shown_move
owed = refl

others : AreSentAs (broken.to White) "result * {Black can not be written}\nquit\n"
unfolding squares some_square each_square is_between is_of is_man is_clear could_capture attacks is_attacked is_in_check
    is_castling_to castling castle_of castling_needs_empty castling_way_is_empty castling_way_is_safe castles
    initial_setup initial_setup_of all_moves moves is_double_advance is_en_passant pawn_advances pawn_captures
    pawn_moves man_moves is_pseudo_legal captured_square men_after rights_after target_after resets_clock halfmove_after
    after is_legal same_men same_rights legal_en_passant_square is_same_position repetition_count has_bishop_on
    has_insufficient_material verdict result_text bytes_of
others = refl

stalemate : sent_at_fault "7k/5Q2/6K1/8/8/8/8/8 b - - 0 1" ≡ Some (codes "result 1/2-1/2 {Stalemate}\nquit\n")
unfolding squares some_square each_square is_between is_of is_man is_clear could_capture attacks is_attacked is_in_check
    is_castling_to castling castle_of castling_needs_empty castling_way_is_empty castling_way_is_safe castles
    initial_setup initial_setup_of all_moves moves is_double_advance is_en_passant pawn_advances pawn_captures
    pawn_moves man_moves is_pseudo_legal captured_square men_after rights_after target_after resets_clock halfmove_after
    after is_legal same_men same_rights legal_en_passant_square is_same_position repetition_count has_bishop_on
    has_insufficient_material verdict result_text king_square right_is_sound
    rights_are_sound has_one_king no_pawn_on_end_ranks has_at_most_16 target_is_sound may_name_right bytes_of
stalemate = refl

at_the_end : sides_due (match_in (BeforeMove Black 1000)) Black "resign" ≡ White ∷ Black ∷ []
unfolding allotted argument_of command_number kind_of
at_the_end = refl

before_it : sides_due (match_in (Handshake Black)) Black "feature ping=1 done=1" ≡ Black ∷ White ∷ []
unfolding argument_of command_number kind_of item_of items_of takes start_fen setup_lines initial_setup initial_setup_of
    placement_text digits
before_it = refl

pub end_lines_are_sent : EndLinesAreSent
unfolding bytes_of
end_lines_are_sent = record {
  white = white;
  black = black;
  mover = mover;
  owed = owed;
  broken_off = refl;
  others = others;
  stalemate = stalemate;
  at_the_end = at_the_end;
  before_it = before_it;
}
