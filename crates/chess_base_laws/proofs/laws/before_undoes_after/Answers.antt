-- Taking back a legal move of a sound position gives that position again: before-after of chess_base's TakesBack, which
-- its shared/LegalMoves passes on.
use Rattle.chess_base.proofs.shared.LegalMoves.{before-after}
use Rattle.chess_base_laws.proofs.laws.before_undoes_after.Goals as goal

pub returns : goal.returns
returns c = before-after
