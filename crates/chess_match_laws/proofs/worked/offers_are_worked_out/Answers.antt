-- What an offer of a draw does, by computation (WorkedTurns).
use Rattle.chess_match_laws.proofs.WorkedTurns.{offers_are_judged}
use Rattle.chess_match_laws.proofs.worked.offers_are_worked_out.Goals as goal

pub returns : goal.returns
returns c = offers_are_judged
