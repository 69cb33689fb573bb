-- Each status follows from what the program does with the fault or the result (Statuses).
use Rattle.arbiter_laws.proofs.Statuses.{statuses_are_stated}
use Rattle.arbiter_laws.proofs.program.statuses_are_stated.Goals as goal

pub returns : goal.returns
returns c = statuses_are_stated
