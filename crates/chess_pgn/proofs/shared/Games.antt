-- For laws of what is read. `pgn_read` (a game's tags, then its moves) is what is read token by token (tokens_are,
-- reads_alike) and by any split (only_read); `fens` and `termination_in` are what tags give. The first token decides
-- after the tags by its row (moves_by_row), in a line by what it does (line_by_kind). A game without a verdict isn't
-- ended (still_open). Initial positions, and FENs read, are of their variant (initial_variant, read_variant).
pub use Rattle.chess_pgn.proofs.GamesByTags.{fens, termination_in, tokens_are, reads_alike, only_read}
pub use Rattle.chess_pgn.proofs.RowsRead.{moves_by_row}
pub use Rattle.chess_pgn.proofs.LineKinds.{line_by_kind}
pub use Rattle.chess_pgn.proofs.PastDraws.{still_open}
pub use Rattle.chess_pgn.proofs.FenVariants.{initial_variant, read_variant}
