-- Whenever a side is asked for its move, both engines have what the match needs, as it would have ended with the
-- handshakes otherwise (NeededLaw).
use Rattle.chess_match_laws.proofs.NeededLaw.{both_have_needed}
use Rattle.chess_match_laws.proofs.handshakes.engines_have_what_is_needed.Goals as goal

pub returns : goal.returns
returns c = both_have_needed
