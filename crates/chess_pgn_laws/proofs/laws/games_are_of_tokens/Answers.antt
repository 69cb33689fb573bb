-- A game that is read is that of its first tokens: by induction on the tokens, of which each keeps that or stops
-- reading (OfTokens.game_of_tokens).
use Rattle.chess_pgn_laws.proofs.OfTokens.{game_of_tokens}
use Rattle.chess_pgn_laws.proofs.laws.games_are_of_tokens.Goals as goal

pub returns : goal.returns
returns c = game_of_tokens
