-- Where draws are automatic, a match after whose moves a draw may be claimed, and the board has no verdict, ended for
-- this draw, or by a fault before its first move; act by act (DrawLaw).
use Rattle.chess_match_laws.proofs.DrawLaw.{automatic_draws_end_matches}
use Rattle.chess_match_laws.proofs.laws.automatic_draws_end_matches.Goals as goal

pub returns : goal.returns
returns c = automatic_draws_end_matches
