-- Each kind of command is run by the one function whose clause says what it does. Only a match takes steps at the host:
-- for the others there are none (HostSteps.steps_none).
use Rattle.std.proofs.Common.{rules, [], Ok, refl}
use Rattle.chess_arbiter.proofs.HostSteps.{steps_none}
use Rattle.chess_arbiter.proofs.program.run_program.Goals as goal

pub returns-in-Err : goal.returns-in-Err
returns-in-Err g c = ([], steps_none _, search rules)

pub returns-in-Session : goal.returns-in-Session
returns-in-Session g c = ([], steps_none _, search rules)

pub returns-in-Verify : goal.returns-in-Verify
returns-in-Verify g c =
    let (found, is, ran) = c.verified.ensures in
    ([], steps_none _, (Ok c.in-Ok.plan, c.in-Ok.ensures, rw c.in-Verify.is (refl, (found, is, ran))))

pub returns-in-Stub : goal.returns-in-Stub
returns-in-Stub g c = ([], steps_none _, search rules)

pub returns-in-Match : goal.returns-in-Match
returns-in-Match g c =
    let (steps, passes, played, logged, plays, is, stays) = c.matched.ensures in
    (steps, passes, (Ok c.in-Ok.plan, c.in-Ok.ensures, rw c.in-Match.is (refl, (played, logged, plays, is, stays))))
