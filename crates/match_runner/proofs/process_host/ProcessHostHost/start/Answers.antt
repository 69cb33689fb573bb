-- If a start fails, the fault names the command of one of the two engines, or says that memory ran out
-- (GamesWritten.start_faults).
use Rattle.match_runner.proofs.GamesWritten.{start_faults}
use Rattle.match_runner.proofs.process_host.ProcessHostHost.start.Goals as goal

pub returns-clause-fails : goal.returns-clause-fails
returns-clause-fails g c = start_faults _ _ c.start_both.result c.start_both.ensures.faults
