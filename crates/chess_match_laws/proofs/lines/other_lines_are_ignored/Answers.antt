-- Each line that the law names is only counted, with fewer than 9,999 before it in its setup or turn, and the 10,000th
-- ends the match (IgnoredLaw, phase by phase, for each kind of line).
use Rattle.chess_match_laws.proofs.IgnoredLaw.{other_lines_are_ignored}
use Rattle.chess_match_laws.proofs.lines.other_lines_are_ignored.Goals as goal

pub returns : goal.returns
returns c = other_lines_are_ignored
