-- Definitions for private contracts and proofs of this crate and of crates above.
pub mod MovesBySquares
