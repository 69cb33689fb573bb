-- Who loses for which reason, and the comments on it, by computation (WorkedLines).
use Rattle.chess_match_laws.proofs.WorkedLines.{ends_are_of_kinds, ends_are_worded, faults_are_reported, losers_lose}
use Rattle.chess_match_laws.proofs.worked.losers_lose.Goals as goal

pub returns-clause-outcomes : goal.returns-clause-outcomes
returns-clause-outcomes c = losers_lose

pub returns-clause-comments : goal.returns-clause-comments
returns-clause-comments c = ends_are_worded

pub returns-clause-kinds : goal.returns-clause-kinds
returns-clause-kinds c = ends_are_of_kinds

pub returns-clause-faults : goal.returns-clause-faults
returns-clause-faults c = faults_are_reported
