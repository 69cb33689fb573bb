-- A log's lines give the events of its match, so its game (LogsRead), its PGN and the output (PgnOfLogs).
use Rattle.match_runner_laws.proofs.{LogsRead.logs_give_the_game, LogsRead.logs_show, PgnOfLogs.logs_give_the_output, PgnOfLogs.logs_give_the_pgn}
use Rattle.match_runner_laws.proofs.logs.logs_give_the_game.Goals as goal

pub returns : goal.returns
returns c = record {
  shows = logs_show;
  gives = logs_give_the_game;
  pgn = logs_give_the_pgn;
  output = logs_give_the_output;
}
