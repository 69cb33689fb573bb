-- The subcommand that `clap` found, with the rows of its options, is the one of the definition: that is the contract of
-- `subcommand`.
use Rattle.std.proofs.Common.{rules}
use Rattle.arbiter_cli.proofs.reading.entered.Goals as goal

pub returns : goal.returns
returns c = search rules
