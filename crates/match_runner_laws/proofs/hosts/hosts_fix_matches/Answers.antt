-- Two engines and a clock fix a match without silences (the laws that are called), and a host over memory fixes both
-- engines and the clock (MatchFixed).
use Rattle.match_runner_laws.proofs.MatchFixed.{one_match}
use Rattle.match_runner_laws.proofs.hosts.hosts_fix_matches.Goals as goal

pub returns : goal.returns
returns c = one_match c.match_is_the_only_one.ensures.of_streams c.silences_end_matches.ensures.asked_for
