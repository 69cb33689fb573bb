-- What `steps_back` requires: if the move captured en passant, the square to which that pawn goes back is on the board
-- (captured_in_board of Made).
use Rattle.chess_moves.proofs.shared.Made.{captured_in_board}
use Rattle.chess_bits.proofs.placing.move_back.Goals as goal

pub steps_back-steps-requires : goal.steps_back-steps-requires
steps_back-steps-requires c = λ at. captured_in_board c.args.setup.now c.args.m.now c.args.saved.now c.requires at
