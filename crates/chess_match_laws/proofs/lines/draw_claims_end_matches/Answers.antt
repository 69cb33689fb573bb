-- A line `1/2-1/2` of a side in its turn, in time or after its move, ends the match as a draw, if one may be claimed
-- (ClaimLaw, for both phases).
use Rattle.chess_match_laws.proofs.ClaimLaw.{draw_claims_end_matches}
use Rattle.chess_match_laws.proofs.lines.draw_claims_end_matches.Goals as goal

pub returns : goal.returns
returns c = draw_claims_end_matches
