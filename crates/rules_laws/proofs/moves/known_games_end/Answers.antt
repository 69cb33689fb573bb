-- The scholar's mate and the fool's mate are legal and end by mate, by computation (KnownGames).
use Rattle.rules_laws.proofs.KnownGames.{known_games_end}
use Rattle.rules_laws.proofs.moves.known_games_end.Goals as goal

pub returns : goal.returns
returns c = known_games_end
