-- A game that is read in a text is read in each part of it that holds the game (clause game). So the reports on a part
-- that holds whole games, on all such parts of a text, and on a text's pieces if they are such parts, are those on the
-- text (the other clauses). Each is one lemma of Parts, given the law that is called.
use Rattle.pgn_verifier_laws.proofs.Parts.{in_parts, reported_alike, all_reported_alike, pieces_alike}
use Rattle.pgn_verifier_laws.proofs.laws.games_are_in_parts.Goals as goal

pub returns-clause-game : goal.returns-clause-game
returns-clause-game c = in_parts c.a_game_is_tags_and_moves.ensures.token_by_token

pub returns-clause-reports : goal.returns-clause-reports
returns-clause-reports c = reported_alike c.a_game_is_tags_and_moves.ensures.token_by_token

pub returns-clause-text : goal.returns-clause-text
returns-clause-text c = all_reported_alike c.a_game_is_tags_and_moves.ensures.token_by_token

pub returns-clause-pieces : goal.returns-clause-pieces
returns-clause-pieces c = pieces_alike c.a_game_is_tags_and_moves.ensures.token_by_token
