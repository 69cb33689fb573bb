-- A plan to verify has the flags that the arguments set (Names.verify_denoted).
use Rattle.arbiter_laws.proofs.Names.{verify_denoted}
use Rattle.arbiter_laws.proofs.arguments.verify_is_as_asked.Goals as goal

pub returns : goal.returns
returns c = verify_denoted
