-- For laws of normal chess in crates above, passed on: on its positions the rules for both variants agree with those
-- for normal chess alone (normal_kept), also on the side to which a move castles (castling_kept).
pub use Rattle.chess_base_laws.proofs.NormalKept.{normal_kept, castling_kept}
