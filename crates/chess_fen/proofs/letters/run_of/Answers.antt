-- The table agrees with the definition at each of the 256 bytes (clause squares; run_stands of RunTable), and each
-- entry has at least one square (clause some; run_some).
use Rattle.std.proofs.Common.{arith}
use Rattle.chess_fen.proofs.RunTable.{run_stands, run_some}
use Rattle.chess_fen.proofs.letters.run_of.Goals as goal

pub returns-clause-squares : goal.returns-clause-squares
returns-clause-squares c = run_stands c.args.byte (omega arith)

pub returns-clause-some : goal.returns-clause-some
returns-clause-some c = run_some c.args.byte (omega arith)
