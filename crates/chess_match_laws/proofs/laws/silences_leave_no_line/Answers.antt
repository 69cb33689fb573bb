-- The silence that ends a match is the last look for a line of its side, and it found none; so all lines in the bytes
-- that were read from its engine were read in the match (LastLook).
use Rattle.chess_match_laws.proofs.LastLook.{silences_leave_no_line}
use Rattle.chess_match_laws.proofs.laws.silences_leave_no_line.Goals as goal

pub returns : goal.returns
returns c = silences_leave_no_line
