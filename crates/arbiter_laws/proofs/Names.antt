-- The plan that the program makes of its arguments is of the kind of their subcommand (plan_named), and a plan to
-- verify has the flags that they set (verify_denoted).
use Rattle.std.proofs.Common.{ap₂}
use Rattle.arbiter_laws.specs.Arguments.{PlansAreNamed, VerifyIsAsAsked}
use Rattle.arbiter_cli.specs.declared.plan.Plan.TheVariants.{Session, Verify, Stub, Match}

pub plan_named : PlansAreNamed
plan_named said Session is = is
plan_named said (Verify keep_going options) is = is.0
plan_named said (Stub arguments) is = is.0
plan_named said (Match plan) is = is.0

-- a plan to verify has the flags that the arguments set
pub verify_denoted : VerifyIsAsAsked
verify_denoted said keep_going options is = ap₂ Verify is.2 is.3
