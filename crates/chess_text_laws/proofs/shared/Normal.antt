-- For laws of normal chess in crates above: in a position of normal chess the legal moves, what a text is read as, SAN
-- and the texts in lists of moves are those of the definitions for normal chess only (normal_kept).
pub use Rattle.chess_text_laws.proofs.NormalTexts.{normal_kept}
