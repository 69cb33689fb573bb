-- After a line is read or found not to have come, the clock is read next and the event noted; and when an event is read
-- no block is due (ActsInOrder).
use Rattle.chess_match_laws.proofs.ActsInOrder.{none_due, read_in_order, silent_in_order}
use Rattle.chess_match_laws.proofs.laws.acts_are_in_order.Goals as goal

pub returns-clause-lines : goal.returns-clause-lines
returns-clause-lines c = read_in_order

pub returns-clause-events : goal.returns-clause-events
returns-clause-events c = none_due

pub returns-clause-silences : goal.returns-clause-silences
returns-clause-silences c = silent_in_order
