-- A line whose answer is a refusal leaves the session as it was: refused_keeps of chess_cecp, which goes through the
-- table of commands, and which the method `answer` of a session needs too.
use Rattle.chess_cecp.proofs.shared.Refusals.{refused_keeps}
use Rattle.chess_cecp_laws.proofs.laws.refusals_change_nothing.Goals as goal

pub returns : goal.returns
returns c = refused_keeps
