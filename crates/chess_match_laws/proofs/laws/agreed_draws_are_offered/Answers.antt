-- A draw is agreed by an offer that is open and one that answers it; the move of the side that answers would close the
-- first (OfferLaw).
use Rattle.chess_match_laws.proofs.OfferLaw.{agreed_draws_are_offered}
use Rattle.chess_match_laws.proofs.laws.agreed_draws_are_offered.Goals as goal

pub returns : goal.returns
returns c = agreed_draws_are_offered
