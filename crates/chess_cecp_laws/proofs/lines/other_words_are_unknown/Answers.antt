-- A line whose first word is none of the 37 known words, and which has no move's shape, is answered as an unknown
-- command (SessionLines).
use Rattle.chess_cecp_laws.proofs.SessionLines.{other_words_are_unknown}
use Rattle.chess_cecp_laws.proofs.lines.other_words_are_unknown.Goals as goal

pub returns : goal.returns
returns c = other_words_are_unknown
