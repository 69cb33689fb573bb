-- The small texts are worked out by computation (EmptyGames); which texts have the shape of a move, needed for `O-O`
-- after a mate, is the law that is called.
use Rattle.chess_pgn_laws.proofs.EmptyGames.{empty_games_are_read}
use Rattle.chess_pgn_laws.proofs.laws.empty_games_are_read.Goals as goal

pub returns : goal.returns
returns c = empty_games_are_read c.texts_have_parts.ensures.shaped
