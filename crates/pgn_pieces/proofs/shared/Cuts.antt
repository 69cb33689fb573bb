-- For crates that read pieces, and for laws of pieces. A text is cut from its first line on (cut_is), which begins no
-- other piece (begun), and a line that begins a piece ends the one before (ends_here); lines and pieces with bytes:
-- some_line, some_bytes, piece_of_some. The pieces of a text are all of it (cut_is_all), and each but perhaps the last
-- ends with `\n` or `\r` (AreLines, cut_ends).
pub use Rattle.pgn_pieces.proofs.CutLines.{begun, cut_is, ends_here, piece_of_some, some_bytes, some_line}
pub use Rattle.pgn_pieces.proofs.InPlace.{cut_is_all}
pub use Rattle.pgn_pieces.proofs.WholePieces.{AreLines, no_texts, last_text, next_text, cut_ends}
