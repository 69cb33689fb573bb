-- No move is made after a verdict or an automatic draw, nor beyond the limit, act by act (EndLaw).
use Rattle.chess_match_laws.proofs.EndLaw.{ends_at_verdicts}
use Rattle.chess_match_laws.proofs.laws.games_end_at_verdicts.Goals as goal

pub returns : goal.returns
returns c = ends_at_verdicts
