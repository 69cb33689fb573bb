-- For texts of games in crates above, passed on: the FEN of a sound position has only ASCII bytes from the space on,
-- without quote and backslash (fen_plain), which is what `Plain` and, for one byte, `IsPlain` say.
pub use Rattle.chess_fen.proofs.Joined.{IsPlain, Plain}
pub use Rattle.chess_fen.proofs.FenBytes.{fen_plain}
