-- From which line on the time for a reply runs, and what a silence does, by computation (WorkedTurns).
use Rattle.chess_match_laws.proofs.WorkedTurns.{replies_are_timed, silences_are_judged}
use Rattle.chess_match_laws.proofs.worked.reply_times_are_worked_out.Goals as goal

pub returns-clause-times : goal.returns-clause-times
returns-clause-times c = replies_are_timed

pub returns-clause-silences : goal.returns-clause-silences
returns-clause-silences c = silences_are_judged
