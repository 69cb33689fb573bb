-- For laws of normal chess in crates above, passed on: the text of the castling rights is their letters, or a dash if
-- there are none (rights_are), asked by the text's length (dashed).
pub use Rattle.chess_fen.proofs.RightLetters.{dashed, rights_are}
