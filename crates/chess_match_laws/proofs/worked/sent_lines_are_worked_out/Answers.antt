-- The lines of handshakes and openings (WorkedLines), and of ends (WorkedEnds), byte by byte, by computation.
use Rattle.chess_match_laws.proofs.WorkedLines.{lines_are_sent}
use Rattle.chess_match_laws.proofs.WorkedEnds.{end_lines_are_sent}
use Rattle.chess_match_laws.proofs.worked.sent_lines_are_worked_out.Goals as goal

pub returns-clause-openings : goal.returns-clause-openings
returns-clause-openings c = lines_are_sent

pub returns-clause-ends : goal.returns-clause-ends
returns-clause-ends c = end_lines_are_sent
