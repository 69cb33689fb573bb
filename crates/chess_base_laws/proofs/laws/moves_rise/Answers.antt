-- The list of legal moves rises by start square, end square and promotion (moves_rise of MovesRise).
use Rattle.chess_base_laws.proofs.MovesRise.{moves_rise}
use Rattle.chess_base_laws.proofs.laws.moves_rise.Goals as goal

pub returns : goal.returns
returns c = moves_rise
