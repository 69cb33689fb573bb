-- What reading requires of each move of a game is all that a session requires, so it accepts them
-- (Accepted.read_games).
use Rattle.chess_cecp_laws.proofs.Accepted.{read_games}
use Rattle.chess_cecp_laws.proofs.laws.read_games_are_accepted.Goals as goal

pub returns : goal.returns
returns c = read_games
