-- Each engine keeps its time control and its name, and the tags of a game are as stated (Players).
use Rattle.match_runner_laws.proofs.Players.{each_keeps_its_level, games_are_tagged}
use Rattle.match_runner_laws.proofs.games.levels_stay_with_engines.Goals as goal

pub returns-clause-levels : goal.returns-clause-levels
returns-clause-levels c = each_keeps_its_level

pub returns-clause-tags : goal.returns-clause-tags
returns-clause-tags c = games_are_tagged
