-- Examples: what lines of engines say, the items of a `feature` line and the features that are on by them; time
-- controls and clocks; the lines that begin handshakes and open turns; bare kings; and of ends the outcome, the kind,
-- the reported fault and the comment. Each is proved by computation (`refl`), but the opening in SAN (WorkedSan);
-- `unfolding` names the definitions that are opened for it.
use Rattle.std.proofs.Common.{refl}
use Rattle.std.specs.Fmt.{digits}
use Rattle.chess_base.specs.{Initial.initial_setup, Initial.initial_setup_of, Men.is_of, Men.is_man, Moves.after}
use Rattle.chess_text.specs.San.{shown_move}
use Rattle.chess_match.specs.{Lines.bytes_of, Rules.has_bare_king}
use Rattle.text_lines.specs.Words.{argument_of, command_number}
use Rattle.cecp_engine.specs.EngineLines.{kind_of}
use Rattle.cecp_engine.specs.Items.{has_word, item_of, items_of, plays_fischerandom, takes}
use Rattle.cecp_engine.specs.Levels.{allotted, base_of, base_text, decimals_text, increment_text, level_reading, level_text, milliseconds_of, thousandths_of}
use Rattle.chess_match_laws.proofs.WorkedSan.{in_san}
use Rattle.chess_match_laws.specs.Worked.{ClocksGoOn, EndsAreOfKinds, EndsAreWorded, FaultsAreReported, FeaturesAreOn, ItemsAreRead, KingsAreBare, LevelsGive, LinesAreSent, LinesSay, LosersLose}

pub lines_say : LinesSay
unfolding argument_of command_number kind_of
lines_say = record {
  move = refl;
  feature = refl;
  resign = refl;
  offer = refl;
  draw = refl;
  white_wins = refl;
  black_wins = refl;
  illegal = refl;
  pong = refl;
  nine_digits = refl;
  ten_digits = refl;
  thinking = refl;
  remark = refl;
  capital = refl;
  no_draw = refl;
  no_number = refl;
}

pub items_are_read : ItemsAreRead
unfolding item_of items_of
items_are_read = refl

pub features_are_on : FeaturesAreOn
unfolding has_word item_of items_of plays_fischerandom takes
features_are_on = record {
  said = refl;
  last = refl;
  quoted = refl;
  no_ping = refl;
  no_setboard = refl;
  no_san = refl;
  no_usermove = refl;
  times = refl;
  draws = refl;
  no_times = refl;
  no_draws = refl;
  no_space = refl;
  no_value = refl;
  chess960 = refl;
  normal = refl;
  all_variants = refl;
}

pub levels_give : LevelsGive
unfolding argument_of allotted base_of base_text decimals_text increment_text level_reading level_text milliseconds_of
    thousandths_of digits
levels_give = record {
  forty = refl;
  twelve = refl;
  short = refl;
  long = refl;
  parts = refl;
  four_digits = refl;
  four_digits_of_moves = refl;
  seconds = refl;
  shown = refl;
  minutes_shown = refl;
  first = refl;
  last = refl;
  second = refl;
  third = refl;
  fourth = refl;
  increments = refl;
}

pub clocks_go_on : ClocksGoOn
unfolding allotted
clocks_go_on = record {
  start = (refl, refl);
  white = (refl, refl);
  black = (refl, refl);
  again = (refl, refl);
  last = (refl, refl);
  next_session = (refl, refl);
  none_left = (refl, refl);
}

pub lines_are_sent : LinesAreSent
unfolding after allotted bytes_of digits initial_setup initial_setup_of item_of items_of shown_move takes
lines_are_sent = record {
  handshake = refl;
  only_white = refl;
  second_handshake = refl;
  first_turn = refl;
  answer = refl;
  later_turn = refl;
  in_san = in_san;
  no_clocks = refl;
}

pub kings_are_bare : KingsAreBare
unfolding has_bare_king is_of is_man
kings_are_bare = record {
  king = refl;
  queen = refl;
  knight = refl;
  pawn = refl;
  black_king = refl;
}

pub losers_lose : LosersLose
losers_lose = record {
  white_resigns = refl;
  black_resigns = refl;
  white_errs = refl;
  black_errs = refl;
  white_moves_twice = refl;
  black_moves_twice = refl;
  white_claims = refl;
  black_claims = refl;
  white_rejects = refl;
  black_rejects = refl;
  white_forfeits = refl;
  black_forfeits = refl;
  bare_king = refl;
  agreed = refl;
  white_mates = refl;
  claimed = λ claim. refl;
  too_long = refl;
  faults = λ c fault. refl;
}

pub ends_are_of_kinds : EndsAreOfKinds
ends_are_of_kinds = record {
  errs = λ c. refl;
  moves_twice = λ c. refl;
  claims = λ c. refl;
  rejects = λ c. refl;
  forfeits = λ c. refl;
  bare_king = refl;
  resigns = λ c. refl;
  agreed = refl;
  decided = λ v. refl;
  claimed = λ claim. refl;
}

pub faults_are_reported : FaultsAreReported
faults_are_reported = record { ending = refl; both_unwritten = refl; black_unwritten = refl; written = refl }

pub ends_are_worded : EndsAreWorded
ends_are_worded = record {
  resigns = refl;
  agreed = refl;
  errs = refl;
  moves_twice = refl;
  claims = refl;
  rejects = refl;
  forfeits = refl;
  bare_king = refl;
  too_long = refl;
  no_ping = refl;
  no_setboard = refl;
  no_variant = refl;
  no_done = refl;
  no_handshake = refl;
  no_answer = refl;
  flood = refl;
  ended = refl;
  unread = refl;
  unwritten = refl;
}
