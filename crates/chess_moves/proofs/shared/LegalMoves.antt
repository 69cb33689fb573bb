-- Passes on four lemmas for boards and games. A legal move is one of a piece of the side on move (own_man_moves), and
-- if it names a promotion, a pawn's to its last rank (promotes_on_last_rank). The list of the legal moves of a sound
-- position has at most 896 (moves_fit), and it isn't empty if some move is legal (some_legal).
pub use Rattle.chess_moves.proofs.Reach.{own_man_moves, promotes_on_last_rank}
pub use Rattle.chess_moves.proofs.Room.{moves_fit}
pub use Rattle.chess_moves.proofs.ListNotEmpty.{some_legal}
