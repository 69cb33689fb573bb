-- The code's state is then that of a match which is over for this reason, and what is due are the lines of the end
-- (over_goes of CoreSteps).
use Rattle.chess_match.proofs.CoreSteps.{over_goes}
use Rattle.chess_match.proofs.state.MatchState.finish.Goals as goal

pub returns : goal.returns
returns c r played m on s = over_goes r _ played _ m on s
