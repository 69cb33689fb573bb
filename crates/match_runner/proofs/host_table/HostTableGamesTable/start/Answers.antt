-- Starting the engines of a game is one step of the table, and the same step of its host.
use Rattle.std.proofs.Common.{refl}
use Rattle.match_runner.proofs.HostSteps.{host_passes}
use Rattle.match_runner.proofs.host_table.HostTableGamesTable.start.Goals as goal

pub returns-clause-passes : goal.returns-clause-passes
returns-clause-passes g c = host_passes _ _ _ _ _ refl c.start.ensures.passes
