-- The examples of specs/WorkedOptions: levels, starts, dates and the options of `verify` are computed; what an option
-- of `match` means is the field of its plan (`IsMatchPlan`) that says so.
use Rattle.std.proofs.Common.{refl}
use Rattle.cecp_engine.specs.Levels.{base_of, level_reading, milliseconds_of, thousandths_of}
use Rattle.text_lines.specs.Words.{argument_of}
use Rattle.arbiter_laws.specs.WorkedOptions.{DatesAreRead, LevelsAreRead, OptionsMean, StartsAreAsked}

pub levels_are_read : LevelsAreRead
unfolding argument_of base_of level_reading milliseconds_of thousandths_of
levels_are_read = record {
  by_default = refl;
  common = refl;
  own_of_white = refl;
  own_of_black = refl;
  common_first = refl;
  white_first = refl;
}

pub starts_are_asked : StartsAreAsked
starts_are_asked = record {
  initial = refl;
  normal = refl;
  chess960 = refl;
  fen = λ fen. refl;
  fen_of_chess960 = λ fen. refl;
}

pub dates_are_read : DatesAreRead
unfolding argument_of base_of level_reading milliseconds_of thousandths_of
dates_are_read = record {
  by_default = refl;
  given = refl;
  sixty = refl;
  too_long = refl;
  unprintable = refl;
  level_first = refl;
  then_fen = refl;
}

pub options_mean : OptionsMean
options_mean = record {
  reply = λ white black plan is. is.reply;
  any_reply = λ white black plan is. is.reply;
  falls = λ white black plan is. is.flag;
  stays = λ white black plan is. is.flag;
  automatic = λ white black plan is. is.draws;
  claimed = λ white black plan is. is.draws;
  games = λ white black plan is. is.games;
  one_game = λ white black plan is. is.games;
  logs = λ white black plan is. is.log;
  no_log = λ white black plan is. is.log;
  keep_going = refl;
  quiet = refl;
  explain = refl;
  spans = refl;
  names = refl;
  variations = refl;
  strict = refl;
  no_board = refl;
  only_board = refl;
  not_strict = refl;
  after_end = refl;
  kinds = refl;
  other_kind = refl;
}
