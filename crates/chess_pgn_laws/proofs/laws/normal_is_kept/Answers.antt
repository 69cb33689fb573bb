-- Games of normal chess are written and read as by the definitions without Chess960 (NormalGames).
use Rattle.chess_pgn_laws.proofs.NormalGames.{normal_kept}
use Rattle.chess_pgn_laws.proofs.laws.normal_is_kept.Goals as goal

pub returns : goal.returns
returns c = normal_kept
