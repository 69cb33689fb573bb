-- For laws of a rank's text in crates above: the text written square by square is the definition's (row_is), and
-- denotes the rank's squares (rank_denotes); a white piece's letter is from B to R (white_range); `joined` puts the
-- squares of all bytes in a row.
pub use Rattle.chess_fen.proofs.DenotedRanks.{joined}
pub use Rattle.chess_fen.proofs.FenBytes.{white_range}
pub use Rattle.chess_fen.proofs.RoundTrip.{rank_denotes}
pub use Rattle.chess_fen.proofs.WrittenRanks.{row_is}
