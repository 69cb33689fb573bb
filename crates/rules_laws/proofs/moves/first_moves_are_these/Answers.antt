-- The legal moves of the initial position are the 20 that are named, by computation (FirstMoves).
use Rattle.rules_laws.proofs.FirstMoves.{first_moves_are_these}
use Rattle.rules_laws.proofs.moves.first_moves_are_these.Goals as goal

pub returns : goal.returns
returns c = first_moves_are_these
