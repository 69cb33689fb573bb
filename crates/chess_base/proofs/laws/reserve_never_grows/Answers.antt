-- No legal move of a sound position raises the reserve (never_grows of ReserveAfter), and one after which the halfmove
-- clock is 0, a capture or a pawn's move, lowers it (falls_for_good of ReserveAfter).
use Rattle.chess_base.proofs.ReserveAfter.{never_grows, falls_for_good}
use Rattle.chess_base.proofs.laws.reserve_never_grows.Goals as goal

pub returns-clause-never_grows : goal.returns-clause-never_grows
returns-clause-never_grows c = never_grows

pub returns-clause-falls_for_good : goal.returns-clause-falls_for_good
returns-clause-falls_for_good c = falls_for_good
