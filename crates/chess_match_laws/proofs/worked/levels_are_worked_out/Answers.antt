-- What some time controls give, and what moves leave on clocks, by computation (WorkedLines).
use Rattle.chess_match_laws.proofs.WorkedLines.{clocks_go_on, levels_give}
use Rattle.chess_match_laws.proofs.worked.levels_are_worked_out.Goals as goal

pub returns-clause-levels : goal.returns-clause-levels
returns-clause-levels c = levels_give

pub returns-clause-clocks : goal.returns-clause-clocks
returns-clause-clocks c = clocks_go_on
