-- The time that a move used is the moment of its line less that of its turn's opening: at each moment of the match
-- (UsedLaw), and so in the whole (in_each of Points).
use Rattle.chess_match_laws.specs.OfActs.{UsedTimesAreDifferences}
use Rattle.chess_match_laws.proofs.{Points.in_each, UsedLaw.used_times_are_differences}
use Rattle.chess_match_laws.proofs.laws.used_times_are_differences.Goals as goal

pub returns-clause-whole : goal.returns-clause-whole
returns-clause-whole c = in_each UsedTimesAreDifferences used_times_are_differences

pub returns-clause-so_far : goal.returns-clause-so_far
returns-clause-so_far c = used_times_are_differences
