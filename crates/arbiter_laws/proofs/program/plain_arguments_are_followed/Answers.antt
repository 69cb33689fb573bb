-- What plain arguments are read as (the law that is called) is what the program then does (PlainArguments.as_followed).
use Rattle.arbiter_laws.proofs.PlainArguments.{as_followed}
use Rattle.arbiter_laws.proofs.program.plain_arguments_are_followed.Goals as goal

pub returns : goal.returns
returns c = as_followed c.plain_arguments_are_read.ensures
