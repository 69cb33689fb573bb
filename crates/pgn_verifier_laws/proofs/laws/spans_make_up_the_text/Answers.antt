-- The spans of the reports on a text, and of those on a collection's pieces, are found one after another in it, with a
-- byte or more each (SpansFound), given the law that is called: a game is read token by token.
use Rattle.pgn_verifier_laws.proofs.SpansFound.{make_up_text, make_up_collection}
use Rattle.pgn_verifier_laws.proofs.laws.spans_make_up_the_text.Goals as goal

pub returns-clause-text : goal.returns-clause-text
returns-clause-text c = make_up_text c.a_game_is_tags_and_moves.ensures.token_by_token

pub returns-clause-collection : goal.returns-clause-collection
returns-clause-collection c = make_up_collection c.a_game_is_tags_and_moves.ensures.token_by_token
