-- The moves of a match are what the texts of `move` lines denote, and a move that a text denotes is legal (the law that
-- is called; GameLaw).
use Rattle.chess_match_laws.proofs.GameLaw.{games_are_lines}
use Rattle.chess_match_laws.proofs.laws.games_are_lines.Goals as goal

pub returns : goal.returns
returns c = games_are_lines c.read_moves_are_legal.ensures
