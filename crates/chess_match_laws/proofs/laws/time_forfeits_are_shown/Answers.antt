-- A side loses on time, or draws against a bare king, exactly if at some moment of its turn the clock showed more than
-- it had left (TimeForfeits).
use Rattle.chess_match_laws.proofs.TimeForfeits.{time_forfeits_are_shown}
use Rattle.chess_match_laws.proofs.laws.time_forfeits_are_shown.Goals as goal

pub returns : goal.returns
returns c = time_forfeits_are_shown
