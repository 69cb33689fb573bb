-- A match that ended for a verdict has it on the board, and the outcome that is reported is that of its game
-- (VerdictLaw). If the board has a verdict, the match ended for it, or by a fault before its first move (Verdicts of
-- chess_match).
use Rattle.chess_match_laws.proofs.VerdictLaw.{decided_by_the_board, outcomes_are_of_the_game}
use Rattle.chess_match.proofs.shared.Verdicts.{verdicts_end_matches}
use Rattle.chess_match_laws.proofs.laws.verdicts_end_matches.Goals as goal

pub returns-clause-decided : goal.returns-clause-decided
returns-clause-decided c = decided_by_the_board

pub returns-clause-verdicts : goal.returns-clause-verdicts
returns-clause-verdicts c = verdicts_end_matches

pub returns-clause-outcomes : goal.returns-clause-outcomes
returns-clause-outcomes c = outcomes_are_of_the_game
