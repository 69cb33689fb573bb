-- `undo` after a move that was accepted leaves the session as it was before the move (Undone).
use Rattle.chess_cecp_laws.proofs.Undone.{undo_takes_a_move_back}
use Rattle.chess_cecp_laws.proofs.game.undo_takes_a_move_back.Goals as goal

pub returns : goal.returns
returns c = undo_takes_a_move_back
