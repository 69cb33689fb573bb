-- For laws of moves' texts in crates above. A legal move's coordinates denote it alone of the legal moves, have a
-- move's shape and are read as it (coordinate_alone and so on). What each legal move has (legal_move). A text that
-- denotes one legal move alone and has the shape (both are `Law`) is read as it (read_alone). A text of castling has
-- both for the move that castles so (castling_law), and no marks to drop (bare_castling).
pub use Rattle.chess_text.proofs.CoordinateLaw.{coordinate_alone, coordinate_shape, coordinate_read}
pub use Rattle.chess_text.proofs.Legal.{legal_move}
pub use Rattle.chess_text.proofs.OneMoveFits.{read_alone}
pub use Rattle.chess_text.proofs.SanLaw.{Law, castling_law}
pub use Rattle.chess_text.proofs.Solid.{bare_castling}
