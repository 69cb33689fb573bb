-- The times sent are the clocks, the engine's own and the other's, but for at most the last: at each moment (TimeLaw),
-- and so in the whole match (in_each of Points).
use Rattle.chess_match_laws.specs.OfActs.{OtherTimesAreClocks, TimesAreClocks}
use Rattle.chess_match_laws.proofs.{Points.in_each, TimeLaw.other_times_are_clocks, TimeLaw.times_are_clocks}
use Rattle.chess_match_laws.proofs.laws.times_are_clocks.Goals as goal

pub returns-clause-own : goal.returns-clause-own
returns-clause-own c = in_each TimesAreClocks times_are_clocks

pub returns-clause-others : goal.returns-clause-others
returns-clause-others c = in_each OtherTimesAreClocks other_times_are_clocks

pub returns-clause-own_so_far : goal.returns-clause-own_so_far
returns-clause-own_so_far c = times_are_clocks

pub returns-clause-others_so_far : goal.returns-clause-others_so_far
returns-clause-others_so_far c = other_times_are_clocks
