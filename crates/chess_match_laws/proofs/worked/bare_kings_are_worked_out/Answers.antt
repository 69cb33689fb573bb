-- Which sides have a bare king, by computation (WorkedLines).
use Rattle.chess_match_laws.proofs.WorkedLines.{kings_are_bare}
use Rattle.chess_match_laws.proofs.worked.bare_kings_are_worked_out.Goals as goal

pub returns : goal.returns
returns c = kings_are_bare
