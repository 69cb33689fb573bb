-- Who loses by claiming a result or rejecting a move, by computation (WorkedTurns).
use Rattle.chess_match_laws.proofs.WorkedTurns.{claims_are_judged}
use Rattle.chess_match_laws.proofs.worked.claims_are_worked_out.Goals as goal

pub returns : goal.returns
returns c = claims_are_judged
