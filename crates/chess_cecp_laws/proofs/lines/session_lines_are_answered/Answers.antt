-- Every session has the same answers to some lines (`answers`), and in examples an input is cut into lines (`lines`),
-- by computation (SessionLines).
use Rattle.chess_cecp_laws.proofs.SessionLines.{lines_are_cut, session_lines_are_answered}
use Rattle.chess_cecp_laws.proofs.lines.session_lines_are_answered.Goals as goal

pub returns-clause-answers : goal.returns-clause-answers
returns-clause-answers c = session_lines_are_answered

pub returns-clause-lines : goal.returns-clause-lines
returns-clause-lines c = lines_are_cut
