-- Texts for GameLines, each by computation (`refl`): the FEN, the moves and the state of a game that has just begun
-- (fen_shown, moves_shown, state_shown); of 1 e4 the state after Black resigned (result_shown), and the PGN
-- (pgn_shown); and the answer to `setboard` with the FEN of a stalemate (stalemate_set).
use Rattle.std.proofs.Common.{◌≡◌, Some, refl, codes}
use Rattle.std.specs.Fmt.{digits}
use Rattle.chess_base.specs.Attacks.{is_clear, could_capture, attacks, is_attacked, is_in_check}
use Rattle.chess_base.specs.Castling.{king_square, right_is_sound, is_castling_to, castling, castle_of, castling_needs_empty, castling_way_is_empty, castling_way_is_safe, castles}
use Rattle.chess_base.specs.{Faults.rights_are_sound, Initial.initial_setup, Initial.initial_setup_of, Men.is_of, Men.is_man, MoveList.all_moves, MoveList.moves, declared.man.Variant.TheVariants.Normal}
use Rattle.chess_base.specs.Moves.{is_double_advance, is_en_passant, pawn_advances, pawn_captures, pawn_moves, man_moves, is_pseudo_legal, captured_square, men_after, rights_after, target_after, resets_clock, halfmove_after, after, is_legal}
use Rattle.chess_base.specs.Sound.{has_one_king, no_pawn_on_end_ranks, has_at_most_16, target_is_sound}
use Rattle.chess_base.specs.Squares.{squares, some_square, each_square, is_between}
use Rattle.chess_fen.specs.{Reading.fen_reading_as, Texts.may_name_right, Writing.fen, Writing.placement_text}
use Rattle.chess_game.specs.Ends.{has_bishop_on, has_insufficient_material, result_text, verdict}
use Rattle.chess_game.specs.Game.{State, current, from_start}
use Rattle.chess_game.specs.Same.{is_same_position, legal_en_passant_square, repetition_count, same_men, same_rights}
use Rattle.chess_text.specs.{Moves.described, San.check_mark, San.rival_starts, San.san, San.shown_move}
use Rattle.pgn_writer.specs.GameText.{pgn}
use Rattle.chess_cecp.specs.{Declaring.state_text, Session.moves_text, Session.setboard_row}
use Rattle.text_lines.specs.Words.{argument_of}
use Rattle.chess_cecp_laws.specs.GameLines.{after_e4, black_resigned, unknown_tags}

pub fen_shown : fen (current (from_start initial_setup))
    ≡ codes "rnbqkbnr/pppppppp/8/8/8/8/PPPPPPPP/RNBQKBNR w KQkq - 0 1"
unfolding initial_setup initial_setup_of placement_text digits
fen_shown = refl

pub moves_shown : moves_text (current (from_start initial_setup)) (moves (current (from_start initial_setup)))
    ≡ codes "20 b1a3 b1c3 g1f3 g1h3 a2a3 a2a4 b2b3 b2b4 c2c3 c2c4 d2d3 d2d4 e2e3 e2e4 f2f3 f2f4 g2g3 g2g4 h2h3 h2h4"
unfolding squares some_square each_square is_between is_of is_man is_clear could_capture attacks is_attacked is_in_check
    is_castling_to castling castle_of castling_needs_empty castling_way_is_empty castling_way_is_safe castles
    initial_setup initial_setup_of all_moves moves is_double_advance is_en_passant pawn_advances pawn_captures
    pawn_moves man_moves is_pseudo_legal captured_square men_after rights_after target_after resets_clock halfmove_after
    after is_legal digits shown_move moves_text
moves_shown = refl

pub state_shown : state_text (from_start initial_setup)
    ≡ codes "0 rep 1 clock 0 claims none verdict none declared none"
unfolding squares some_square each_square is_between is_of is_man is_clear could_capture attacks is_attacked is_in_check
    is_castling_to castling castle_of castling_needs_empty castling_way_is_empty castling_way_is_safe castles
    initial_setup initial_setup_of all_moves moves is_double_advance is_en_passant pawn_advances pawn_captures
    pawn_moves man_moves is_pseudo_legal captured_square men_after rights_after target_after resets_clock halfmove_after
    after is_legal digits verdict has_bishop_on has_insufficient_material same_men same_rights legal_en_passant_square
    is_same_position repetition_count result_text state_text
state_shown = refl

pub result_shown : state_text (record after_e4 { declared = Some black_resigned })
    ≡ codes "1 rep 1 clock 0 claims none verdict none declared 1-0 {Black resigns}"
unfolding squares some_square each_square is_between is_of is_man is_clear could_capture attacks is_attacked is_in_check
    is_castling_to castling castle_of castling_needs_empty castling_way_is_empty castling_way_is_safe castles
    initial_setup initial_setup_of all_moves moves is_double_advance is_en_passant pawn_advances pawn_captures
    pawn_moves man_moves is_pseudo_legal captured_square men_after rights_after target_after resets_clock halfmove_after
    after is_legal digits verdict has_bishop_on has_insufficient_material same_men same_rights legal_en_passant_square
    is_same_position repetition_count result_text state_text
result_shown = refl

pub pgn_shown : pgn (codes "# ") unknown_tags after_e4
    ≡ codes "# [Event \"?\"]\n# [Site \"?\"]\n# [Date \"????.??.??\"]\n# [Round \"?\"]\n# [White \"?\"]\n# [Black \"?\"]\n# [Result \"*\"]\n# [Termination \"unterminated\"]\n# \n# 1. e4 *\n# \n"
unfolding squares some_square each_square is_between is_of is_man is_clear could_capture attacks is_attacked is_in_check
    is_castling_to castling castle_of castling_needs_empty castling_way_is_empty castling_way_is_safe castles
    initial_setup initial_setup_of all_moves moves is_double_advance is_en_passant pawn_advances pawn_captures
    pawn_moves man_moves is_pseudo_legal captured_square men_after rights_after target_after resets_clock halfmove_after
    after is_legal placement_text digits verdict has_bishop_on has_insufficient_material same_men same_rights
    legal_en_passant_square is_same_position repetition_count described rival_starts check_mark san pgn
pgn_shown = refl

pub stalemate_set : (s : State) → (setboard_row s (fen_reading_as Normal
    (argument_of (codes "setboard 7k/5Q2/6K1/8/8/8/8/8 b - - 0 1")))).text ≡ codes "1/2-1/2 {Stalemate}\n"
unfolding squares some_square each_square is_between is_of is_man is_clear could_capture attacks is_attacked is_in_check
    king_square right_is_sound rights_are_sound has_one_king no_pawn_on_end_ranks has_at_most_16 target_is_sound
    may_name_right is_castling_to castling castle_of castling_needs_empty castling_way_is_empty castling_way_is_safe
    castles all_moves moves is_double_advance is_en_passant pawn_advances pawn_captures pawn_moves man_moves
    is_pseudo_legal captured_square men_after rights_after target_after resets_clock halfmove_after after is_legal
    verdict result_text argument_of
stalemate_set s = refl
