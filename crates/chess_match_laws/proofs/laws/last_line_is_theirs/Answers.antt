-- If a side lost by its line, the match ended at once, so this line is the last one read (LastLine).
use Rattle.chess_match_laws.proofs.LastLine.{last_line_is_theirs}
use Rattle.chess_match_laws.proofs.laws.last_line_is_theirs.Goals as goal

pub returns : goal.returns
returns c = last_line_is_theirs
