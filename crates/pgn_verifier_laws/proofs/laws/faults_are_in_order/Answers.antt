-- Which fault at a game's end is reported first (clause order), and which draws are passed over (clause draws): by
-- computation, in FaultOrder.
use Rattle.pgn_verifier_laws.proofs.FaultOrder.{draws_are_passed, faults_are_in_order}
use Rattle.pgn_verifier_laws.proofs.laws.faults_are_in_order.Goals as goal

pub returns-clause-order : goal.returns-clause-order
returns-clause-order c = faults_are_in_order

pub returns-clause-draws : goal.returns-clause-draws
returns-clause-draws c = draws_are_passed
