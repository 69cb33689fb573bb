-- What some lines of engines say, how many are ignored, and how handshakes end, by computation (WorkedLines,
-- WorkedTurns).
use Rattle.chess_match_laws.proofs.WorkedLines.{features_are_on, items_are_read, lines_say}
use Rattle.chess_match_laws.proofs.WorkedTurns.{handshakes_end, ignored_are_counted}
use Rattle.chess_match_laws.proofs.worked.engine_lines_are_worked_out.Goals as goal

pub returns-clause-lines : goal.returns-clause-lines
returns-clause-lines c = lines_say

pub returns-clause-items : goal.returns-clause-items
returns-clause-items c = items_are_read

pub returns-clause-features : goal.returns-clause-features
returns-clause-features c = features_are_on

pub returns-clause-counts : goal.returns-clause-counts
returns-clause-counts c = ignored_are_counted

pub returns-clause-handshakes : goal.returns-clause-handshakes
returns-clause-handshakes c = handshakes_end
