-- A plan is that of the subcommand that was asked for (Names.plan_named).
use Rattle.arbiter_laws.proofs.Names.{plan_named}
use Rattle.arbiter_laws.proofs.arguments.plans_are_named.Goals as goal

pub returns : goal.returns
returns c = plan_named
