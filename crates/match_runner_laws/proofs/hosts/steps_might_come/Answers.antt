-- The steps that passed at a host over memory might come at it as it was before them (HostsAsked).
use Rattle.match_runner_laws.proofs.HostsAsked.{steps_might_come}
use Rattle.match_runner_laws.proofs.hosts.steps_might_come.Goals as goal

pub returns : goal.returns
returns c = steps_might_come
