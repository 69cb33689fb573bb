-- For each kind of plain command line `clap` has no fault, and what it matched says the same as the command line
-- (PlainReadings.plain_read).
use Rattle.arbiter_laws.proofs.PlainReadings.{plain_read}
use Rattle.arbiter_laws.proofs.arguments.plain_arguments_are_read.Goals as goal

pub returns : goal.returns
returns c = plain_read
