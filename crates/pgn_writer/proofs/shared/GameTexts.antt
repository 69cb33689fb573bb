-- For laws of what is written. A game's text is its tags' lines, an empty line, its tokens put into lines one by one,
-- and an empty line (pgn_filled). Its tokens are those of its moves, one after another, and the outcome
-- (game_numbered); in a playable game each has 1 to 79 bytes (game_is_short). No other text is laid out as the game's
-- (only_written).
pub use Rattle.pgn_writer.proofs.GameTexts.{pgn_filled}
pub use Rattle.pgn_writer.proofs.NumberedMoves.{game_numbered}
pub use Rattle.pgn_writer.proofs.ShortTokens.{game_is_short}
pub use Rattle.pgn_writer.proofs.LaidOut.{only_written}
