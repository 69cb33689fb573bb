-- The code's state is then that of a match in which this turn begins, and what is due are its opening lines (open_goes
-- of CoreSteps).
use Rattle.chess_match.proofs.CoreSteps.{open_goes}
use Rattle.chess_match.proofs.state.MatchState.open_turn.Goals as goal

pub returns : goal.returns
returns c r played m s = rw c.note_sent.ensures (open_goes r c.args.self.now played c.args.side m s)
