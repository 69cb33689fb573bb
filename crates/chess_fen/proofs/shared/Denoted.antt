-- For laws of FEN in crates above, passed on: what is read of a text is denoted by it (denoted-reading), and a sound
-- position that a text denotes is read of it (reading-denoted). The FEN that is written for a sound position denotes it
-- (fen-denoted) and no other (fen-denotes_one).
pub use Rattle.chess_fen.proofs.DenotedFen.{denoted-reading, reading-denoted}
pub use Rattle.chess_fen.proofs.WrittenFen.{fen-denoted, fen-denotes_one}
