-- By the laws of the arguments each of them is taken, and so what is planned and done
-- (PlainArguments.serves_session, verifies_games).
use Rattle.std.proofs.Common.{[], ◌∷◌, codes}
use Rattle.arbiter_laws.proofs.PlainArguments.{serves_session, verifies_games}
use Rattle.arbiter_laws.proofs.program.plain_arguments_do_what_they_say.Goals as goal

pub returns-clause-none : goal.returns-clause-none
returns-clause-none c = serves_session c.plans_are_named.ensures [] c.plain_arguments_are_taken.ensures.none

pub returns-clause-session : goal.returns-clause-session
returns-clause-session c = serves_session c.plans_are_named.ensures (codes "session" ∷ [])
    c.plain_arguments_are_taken.ensures.session

pub returns-clause-verify : goal.returns-clause-verify
returns-clause-verify c = verifies_games c.plans_are_named.ensures c.verify_is_as_asked.ensures (codes "verify" ∷ [])
    c.plain_arguments_are_taken.ensures.verify c.plain_arguments_are_taken.ensures.bare
