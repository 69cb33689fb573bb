-- The exit status is that of what `verify_as` found (a fault in a game or none), or 1 if it failed itself.
use Rattle.std.proofs.Common.{Ok, Err}
use Rattle.chess_arbiter.proofs.program.verified.Goals as goal

pub returns-in-Ok : goal.returns-in-Ok
returns-in-Ok g c = (Ok c.in-Ok.verified, c.verified_status.ensures, c.in-Ok.ensures)

pub returns-in-Err : goal.returns-in-Err
returns-in-Err g c = (Err c.in-Err.fault, c.reported.ensures, c.in-Err.ensures)
