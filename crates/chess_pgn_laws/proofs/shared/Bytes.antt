-- A lemma for crates above: a text of which each byte passes a test passes each weaker test.
pub use Rattle.chess_pgn_laws.proofs.WrittenWords.{list_all-weaker}
