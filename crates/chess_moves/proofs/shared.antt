-- The lemmas of this crate that crates above may cite; the other modules of proofs/ are private to the crate. All are
-- about definitions, none about functions.
pub mod AnyMove
pub mod LegalMoves
pub mod Made
pub mod Members
pub mod MovesBySquares
pub mod Origins
pub mod PositionHash
