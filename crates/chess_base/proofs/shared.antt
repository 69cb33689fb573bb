-- Lemmas for crates above: all are about definitions, none about functions. They can cite no other module of proofs/.
pub mod After
pub mod Captures
pub mod Castling
pub mod CastlingNamed
pub mod Changes
pub mod Choices
pub mod Geometry
pub mod Kings
pub mod LegalMoves
pub mod Men
pub mod MenAfter
pub mod MoveKinds
pub mod Parts
pub mod Sound
pub mod Squares
pub mod Writes
