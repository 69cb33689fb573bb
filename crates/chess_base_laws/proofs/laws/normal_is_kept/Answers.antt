-- On positions of normal chess the rules for both variants agree with those for normal chess alone: on sound castling
-- rights, legal moves, and the position after a move (normal_kept of NormalKept).
use Rattle.chess_base_laws.proofs.NormalKept.{normal_kept}
use Rattle.chess_base_laws.proofs.laws.normal_is_kept.Goals as goal

pub returns : goal.returns
returns c = normal_kept
