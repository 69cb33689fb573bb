-- For crates that read games one after another. If a game is read without a fault, its end is in the text and after the
-- offset where reading began (ends_in_text); so is where `game_end` says that a game ends, which may have a fault
-- (end_in_text).
pub use Rattle.chess_pgn.proofs.FaultPlaces.{ends_in_text}
pub use Rattle.chess_pgn.proofs.GameEnds.{end_in_text}
