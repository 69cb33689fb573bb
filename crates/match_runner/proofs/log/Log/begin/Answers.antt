-- At the beginning of a game no note is logged yet, so the log is that of the empty list of notes.
use Rattle.std.proofs.Common.{refl}
use Rattle.match_runner.proofs.Logged.{log_begun}
use Rattle.match_runner.proofs.log.Log.begin.Goals as goal

pub returns : goal.returns
returns g c = record { log = log_begun _ _ _ _ _ refl refl refl }
