-- What lines and silences of engines do in a match, in examples: claims of a result, offers of a draw, ignored lines,
-- the ends of handshakes, silences, and from when on the time for a reply runs. Each is proved by computation (`refl`);
-- `unfolding` names the definitions that are opened for it.
use Rattle.std.proofs.Common.{◌≡◌, false, true, refl}
use Rattle.std.specs.Fmt.{digits}
use Rattle.chess_base.specs.Attacks.{is_clear, could_capture, attacks, is_attacked, is_in_check}
use Rattle.chess_base.specs.Castling.{is_castling_to, castling, castle_of, castling_needs_empty, castling_way_is_empty, castling_way_is_safe, castles}
use Rattle.chess_base.specs.{Initial.initial_setup, Initial.initial_setup_of, Men.is_of, Men.is_man, MoveList.all_moves, MoveList.moves, declared.man.Colour.TheVariants.White}
use Rattle.chess_base.specs.Moves.{is_double_advance, is_en_passant, pawn_advances, pawn_captures, pawn_moves, man_moves, is_pseudo_legal, captured_square, men_after, rights_after, target_after, resets_clock, halfmove_after, after, is_legal}
use Rattle.chess_base.specs.Squares.{squares, some_square, each_square, is_between}
use Rattle.chess_fen.specs.Writing.{placement_text}
use Rattle.chess_game.specs.Same.{is_same_position, legal_en_passant_square, repetition_count, same_men, same_rights}
use Rattle.chess_match.specs.{Effects.Over, Lines.bytes_of, Rules.start_fen, declared.reason.Reason.TheVariants.Agreed}
use Rattle.text_lines.specs.Words.{argument_of, command_number}
use Rattle.cecp_engine.specs.EngineLines.{kind_of}
use Rattle.cecp_engine.specs.Items.{has_word, item_of, items_of, plays_fischerandom, takes}
use Rattle.cecp_engine.specs.Levels.{allotted}
use Rattle.chess_match_laws.specs.WorkedTurns.{ClaimsAreJudged, HandshakesEnd, IgnoredAreCounted, OffersAreJudged, RepliesAreTimed, SendsBlack, SilencesAreJudged, by_line, offered_by}

pub claims_are_judged : ClaimsAreJudged
unfolding allotted argument_of command_number kind_of
claims_are_judged = record {
  white_claims = refl;
  black_claims = refl;
  white_gives_in = refl;
  black_gives_in = refl;
  resigns = refl;
  rejects = refl;
  rejects_nothing = refl;
  claims_later = refl;
  gives_in_later = refl;
}

-- ---- a claim of a draw before any move, where none may be claimed

claim_passed_on : SendsBlack (by_line (offered_by false false) White "1/2-1/2") "draw\n"
unfolding squares some_square each_square is_between is_of is_man is_clear could_capture attacks is_attacked is_in_check
    is_castling_to castling castle_of castling_needs_empty castling_way_is_empty castling_way_is_safe castles
    initial_setup initial_setup_of all_moves moves is_double_advance is_en_passant pawn_advances pawn_captures
    pawn_moves man_moves is_pseudo_legal captured_square men_after rights_after target_after resets_clock halfmove_after
    after is_legal same_men same_rights legal_en_passant_square is_same_position repetition_count allotted
    argument_of bytes_of command_number item_of items_of kind_of takes
claim_passed_on = refl

claim_agreed : (by_line (offered_by false true) White "1/2-1/2").after.phase ≡ Over Agreed
unfolding squares some_square each_square is_between is_of is_man is_clear could_capture attacks is_attacked is_in_check
    is_castling_to castling castle_of castling_needs_empty castling_way_is_empty castling_way_is_safe castles
    initial_setup initial_setup_of all_moves moves is_double_advance is_en_passant pawn_advances pawn_captures
    pawn_moves man_moves is_pseudo_legal captured_square men_after rights_after target_after resets_clock halfmove_after
    after is_legal same_men same_rights legal_en_passant_square is_same_position repetition_count allotted
    argument_of command_number kind_of
claim_agreed = refl

pub offers_are_judged : OffersAreJudged
unfolding allotted argument_of bytes_of command_number item_of items_of kind_of takes
offers_are_judged = record {
  offer = refl;
  not_back = refl;
  is_open = refl;
  again = refl;
  agreed = refl;
  claim = claim_passed_on;
  claim_agreed = claim_agreed;
}

pub ignored_are_counted : IgnoredAreCounted
unfolding squares some_square each_square is_between is_of is_man is_clear could_capture attacks is_attacked is_in_check
    is_castling_to castling castle_of castling_needs_empty castling_way_is_empty castling_way_is_safe castles
    initial_setup initial_setup_of all_moves moves is_double_advance is_en_passant pawn_advances pawn_captures
    pawn_moves man_moves is_pseudo_legal captured_square men_after rights_after target_after resets_clock halfmove_after
    after is_legal same_men same_rights legal_en_passant_square is_same_position repetition_count allotted
    argument_of command_number kind_of
ignored_are_counted = record { setup = refl; turn = refl; move = refl }

pub handshakes_end : HandshakesEnd
unfolding argument_of command_number digits has_word initial_setup initial_setup_of item_of items_of kind_of
    placement_text plays_fischerandom start_fen takes
handshakes_end = record {
  goes_on = refl;
  too_many = refl;
  done = refl;
  quoted = refl;
  in_time = refl;
  no_ping = refl;
  no_setboard = refl;
  no_variant = refl;
  nothing = refl;
  only_ping = refl;
  both_lack = refl;
  black_lacks = refl;
  none_lacks = refl;
  white_is_set_up = refl;
}

pub silences_are_judged : SilencesAreJudged
silences_are_judged = record {
  in_time = refl;
  handshake = refl;
  setup = refl;
  moved = refl;
  first = refl;
  later = refl;
}

pub replies_are_timed : RepliesAreTimed
unfolding argument_of command_number item_of items_of kind_of
replies_are_timed = record {
  feature = refl;
  remark = refl;
  next = refl;
  first = refl;
  setup = refl;
  pong = refl;
  moved = refl;
}
