-- The clock grows by one with each quiet move and is 0 after any other, so it counts the quiet ones at the end; and
-- both counters stay at their limit (Counted).
use Rattle.rules_laws.proofs.Counted.{clocks_count_quiet_moves, counters_stop}
use Rattle.rules_laws.proofs.endings.halfmove_clocks_count_quiet_moves.Goals as goal

pub returns-clause-quiet : goal.returns-clause-quiet
returns-clause-quiet c = clocks_count_quiet_moves

pub returns-clause-limits : goal.returns-clause-limits
returns-clause-limits c = counters_stop
