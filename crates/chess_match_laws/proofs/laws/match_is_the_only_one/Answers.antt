-- The same engines and clock give the same match (OneLaw), and the same events whichever end lines could be sent, if no
-- failed write ended it (EndLinesLaw). Two matches of one run, whose devices show all, are the same (OneRunLaw).
use Rattle.chess_match_laws.proofs.{EndLinesLaw.one_match_but_for_end_lines, OneLaw.only_one_match, OneRunLaw.only_one_of_a_run}
use Rattle.chess_match_laws.proofs.laws.match_is_the_only_one.Goals as goal

pub returns-clause-of_streams : goal.returns-clause-of_streams
returns-clause-of_streams c = only_one_match

pub returns-clause-events : goal.returns-clause-events
returns-clause-events c = one_match_but_for_end_lines

pub returns-clause-of_a_run : goal.returns-clause-of_a_run
returns-clause-of_a_run c = only_one_of_a_run
