-- By induction over the moves the positions of both games are mirrors, but for the fullmove number, which no verdict or
-- claim looks at; so the tests of verdicts and claims agree (MirrorGames).
use Rattle.rules_laws.proofs.MirrorGames.{mirror_games_alike}
use Rattle.rules_laws.proofs.mirror.games_are_mirrored.Goals as goal

pub returns : goal.returns
returns c = mirror_games_alike
