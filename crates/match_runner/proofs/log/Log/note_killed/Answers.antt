-- White's line is logged, if there is one, and then Black's.
use Rattle.match_runner.proofs.Logged.{logged_more}
use Rattle.match_runner.proofs.log.Log.note_killed.Goals as goal

pub returns : goal.returns
returns g c = logged_more _ _ _ _ _ c.note_if_killed.ensures c.note_if_killed-2.ensures
