-- Each item of a `feature` line is answered by its name, event by event; and which of some names are accepted is
-- computed (AnswerLaw).
use Rattle.chess_match_laws.proofs.AnswerLaw.{items_are_answered, names_are_known}
use Rattle.chess_match_laws.proofs.handshakes.features_are_answered.Goals as goal

pub returns-clause-answered : goal.returns-clause-answered
returns-clause-answered c = items_are_answered

pub returns-clause-names : goal.returns-clause-names
returns-clause-names c = names_are_known
