-- If no fault is reported on a text's pieces, they hold whole games, so their reports are those on the text
-- (FaultlessTexts), given the law that is called: a game is read token by token.
use Rattle.pgn_verifier_laws.proofs.FaultlessTexts.{faultless_alike}
use Rattle.pgn_verifier_laws.proofs.laws.a_text_without_faults_is_reported_alike.Goals as goal

pub returns : goal.returns
returns c = faultless_alike c.a_game_is_tags_and_moves.ensures.token_by_token
