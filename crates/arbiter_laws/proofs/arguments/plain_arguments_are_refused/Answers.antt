-- The grammar refuses `--help`, `--version` and a bare `match` as stated; each is written out, so this is computed
-- (Literals).
use Rattle.arbiter_laws.proofs.Literals.{help_refused, version_refused, bare_match_refused}
use Rattle.arbiter_laws.proofs.arguments.plain_arguments_are_refused.Goals as goal

pub returns-clause-help : goal.returns-clause-help
returns-clause-help c = help_refused

pub returns-clause-version : goal.returns-clause-version
returns-clause-version c = version_refused

pub returns-clause-bare_match : goal.returns-clause-bare_match
returns-clause-bare_match c = bare_match_refused
