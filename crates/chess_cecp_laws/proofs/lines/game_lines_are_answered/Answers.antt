-- The answers to some lines, depending on the session's game, how claims are shown, which results `result` declares,
-- and how faults of a FEN are named (GameLines); and a bare move, such as `e4`, has the response of `usermove e4`
-- (BareMoves).
use Rattle.chess_cecp_laws.proofs.BareMoves.{bare_moves_are_moves}
use Rattle.chess_cecp_laws.proofs.GameLines.{claims_are_shown, faults_are_named, game_lines_are_answered, results_are_read}
use Rattle.chess_cecp_laws.proofs.lines.game_lines_are_answered.Goals as goal

pub returns-clause-answers : goal.returns-clause-answers
returns-clause-answers c = game_lines_are_answered

pub returns-clause-bare : goal.returns-clause-bare
returns-clause-bare c = bare_moves_are_moves

pub returns-clause-claims : goal.returns-clause-claims
returns-clause-claims c = claims_are_shown

pub returns-clause-results : goal.returns-clause-results
returns-clause-results c = results_are_read

pub returns-clause-faults : goal.returns-clause-faults
returns-clause-faults c = faults_are_named
