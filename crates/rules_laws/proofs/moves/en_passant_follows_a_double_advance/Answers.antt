-- The second move goes to the en passant target (to_target), and the first left a target, so it was a double advance
-- over it (target_of); the pawn past the target is captured (follows of proofs/EnPassant).
use Rattle.rules_laws.proofs.EnPassant.{follows}
use Rattle.rules_laws.proofs.moves.en_passant_follows_a_double_advance.Goals as goal

pub returns : goal.returns
returns c = follows
