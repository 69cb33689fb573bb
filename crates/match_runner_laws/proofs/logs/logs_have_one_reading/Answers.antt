-- The lines of a log are read back from its text, so no other lines have this text; and how some look (EntriesRead).
use Rattle.match_runner_laws.proofs.EntriesRead.{log_lines_look, logs_have_one_reading}
use Rattle.match_runner_laws.proofs.logs.logs_have_one_reading.Goals as goal

pub returns-clause-reading : goal.returns-clause-reading
returns-clause-reading c = logs_have_one_reading

pub returns-clause-lines : goal.returns-clause-lines
returns-clause-lines c = log_lines_look
