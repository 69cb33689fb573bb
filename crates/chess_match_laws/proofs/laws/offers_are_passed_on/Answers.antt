-- Whenever a line of a side is read while the other's offer is open, the side was sent `draw`, if it takes it; and it
-- is sent at most one `draw` more than it has made moves (PassingLaw), and at most as many as the other side has
-- offered (OfferedLaw).
use Rattle.chess_match_laws.proofs.{OfferedLaw.draws_are_offered, PassingLaw.draws_are_few, PassingLaw.offers_are_passed_on}
use Rattle.chess_match_laws.proofs.laws.offers_are_passed_on.Goals as goal

pub returns-clause-passed : goal.returns-clause-passed
returns-clause-passed c = offers_are_passed_on

pub returns-clause-offered : goal.returns-clause-offered
returns-clause-offered c = draws_are_offered

pub returns-clause-once : goal.returns-clause-once
returns-clause-once c = draws_are_few
