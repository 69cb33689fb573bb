-- The lines that were read are the first lines of the known bytes (KnownInputs.are_first); and a run that ends without
-- a fault answered the lines of these bytes, up to one with which the server ends (KnownInputs.answers_input).
use Rattle.chess_cecp_laws.proofs.KnownInputs.{are_first, answers_input}
use Rattle.chess_cecp_laws.proofs.laws.reads_change_no_answer.Goals as goal

pub returns-clause-lines : goal.returns-clause-lines
returns-clause-lines g c = are_first

pub returns-clause-answers : goal.returns-clause-answers
returns-clause-answers g c = λ s s2 end d d2 ran. answers_input g.S.LineServer.respond s s2 end d d2 ran
