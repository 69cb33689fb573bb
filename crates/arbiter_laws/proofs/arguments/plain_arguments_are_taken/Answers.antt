-- The grammar takes no arguments, `session` and `verify`, for the stated command; each is written out, so this is
-- computed (Literals).
use Rattle.arbiter_laws.proofs.Literals.{none_asked, session_asked, verify_asked, verify_bare}
use Rattle.arbiter_laws.proofs.arguments.plain_arguments_are_taken.Goals as goal

pub returns-clause-none : goal.returns-clause-none
returns-clause-none c = none_asked

pub returns-clause-session : goal.returns-clause-session
returns-clause-session c = session_asked

pub returns-clause-verify : goal.returns-clause-verify
returns-clause-verify c = verify_asked

pub returns-clause-bare : goal.returns-clause-bare
returns-clause-bare c = verify_bare
