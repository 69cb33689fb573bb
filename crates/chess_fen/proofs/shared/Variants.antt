-- For crates that read games, passed on: a position that is read as a FEN of a variant is of that variant
-- (reading_in_variant).
pub use Rattle.chess_fen.proofs.DenotedFen.{reading_in_variant}
