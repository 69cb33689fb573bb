-- What a match leaves on the error output are its logs, and then nothing, or the report of its fault (Reporting).
use Rattle.std.proofs.Common.{Ok, Err, refl}
use Rattle.chess_arbiter.proofs.Reporting.{reports_nothing}
use Rattle.chess_arbiter.proofs.program.matched.Goals as goal

pub returns-in-Ok : goal.returns-in-Ok
returns-in-Ok g c =
    let (steps, passes, plays) = c.in-Ok.ensures.plays in
    (steps, passes, Ok tt, _, plays, refl, reports_nothing _)

pub returns-in-Err : goal.returns-in-Err
returns-in-Err g c =
    let (steps, passes, plays) = c.in-Err.ensures.plays in
    (steps, passes, Err c.in-Err.fault, _, plays, refl, (c.report.ensures.broken, c.report.ensures.reports))
