-- Lines of reports, spans of games, where texts are read on, and pieces of collections, by computation: each row of a
-- definition in specs/WorkedReports is one equation. In rows that are for any text or collection with two reports,
-- these are given as a hypothesis.
use Rattle.std.proofs.Common.{[], refl}
use Rattle.std.specs.Fmt.{digits}
use Rattle.chess_pgn.specs.GameRead.{pgn_read}
use Rattle.pgn_pieces.specs.Pieces.{after_parts}
use Rattle.pgn_tokens.specs.Tokens.{token_at, tokens_from, tokens_of}
use Rattle.pgn_verifier.specs.{Collection.no_piece, Explanations.explanation_line, Reports.counts_line, Reports.report_line, laws.Reported.placed_from}
use Rattle.pgn_verifier_laws.specs.WorkedReports.{GamesAreFound, PiecesBegin, ReportsAreWritten, TextsAreReadOn, both}

pub reports_are_written : ReportsAreWritten
unfolding counts_line digits explanation_line report_line
reports_are_written = record {
  plainly = refl;
  quietly = refl;
  spans = refl;
  names = refl;
  spans_and_names = refl;
  players = refl;
  nobody = refl;
  explained = refl;
  unread = refl;
  too_long = refl;
  of_text = λ text short are. ((refl, refl), short, (both, are, refl, refl));
  text_cut_off = (refl, refl, refl);
  of_collection = λ text are. (both, are, ((refl, refl), refl, refl));
  no_games = ([], no_piece, ((refl, refl), refl, refl));
  cut_off_in_piece = ([], no_piece, (refl, refl, refl));
  piece_faults = refl;
  after_mate = refl;
  counts = refl;
}

pub games_are_found : GamesAreFound
unfolding pgn_read placed_from token_at tokens_from tokens_of
games_are_found = refl

pub texts_are_read_on : TextsAreReadOn
unfolding pgn_read placed_from token_at tokens_from tokens_of
texts_are_read_on = record {
  marker = refl;
  later = refl;
  tags = refl;
  kept_going = refl;
  stopped = refl;
  bytes_left = refl;
  none_left = refl;
  later_variation = refl;
  end = refl;
  unreadable = refl;
  bad_tag = refl;
}

pub pieces_begin : PiecesBegin
unfolding after_parts
pieces_begin = record {
  events = refl;
  event_later = refl;
  white_later = refl;
  no_moves = refl;
  moves = refl;
  moves_after_tag = refl;
  moves_after_tags = refl;
  moves_after_comment = refl;
  quote_in_tag = refl;
  no_token = refl;
  unclosed_tag = refl;
  moves_after_glyph = refl;
  variation_after_tag = refl;
  indented_escape = refl;
  marks_after_tag = refl;
  glyph_after_tag = refl;
  unclosed_comment = refl;
  broken_on_long_line = refl;
  open_on_long_line = refl;
}
