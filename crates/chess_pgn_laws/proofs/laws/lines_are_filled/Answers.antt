-- The lines that are written of short tokens are as full as they can be (FullLines.are_filled), and no other lines of
-- these tokens are (FullLines.only_filled).
use Rattle.chess_pgn_laws.proofs.FullLines.{are_filled, only_filled}
use Rattle.chess_pgn_laws.proofs.laws.lines_are_filled.Goals as goal

pub returns-clause-filled : goal.returns-clause-filled
returns-clause-filled c = are_filled

pub returns-clause-no_other : goal.returns-clause-no_other
returns-clause-no_other c = only_filled
