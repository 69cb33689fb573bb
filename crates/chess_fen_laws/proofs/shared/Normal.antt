-- For laws of normal chess in crates above, passed on: by the definitions for normal chess alone each text is read as
-- by those for both variants (reading_kept), as a position of normal chess (reading_is_normal), and each position of
-- normal chess is written as the same FEN (fen_kept).
pub use Rattle.chess_fen_laws.proofs.NormalRead.{reading_is_normal, reading_kept}
pub use Rattle.chess_fen_laws.proofs.NormalWritten.{fen_kept}
