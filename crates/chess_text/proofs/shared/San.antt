-- For crates that write SAN. The SAN of a legal move of a sound position denotes it alone of the legal moves
-- (san_alone), has a move's shape (san_shape) and is read as it (san_read); it has two to seven bytes (san_short), each
-- one that SAN may have (san_bytes), and begins with a letter (san_letter).
pub use Rattle.chess_text.proofs.SanLaw.{san_alone, san_bytes, san_letter, san_read, san_shape, san_short}
