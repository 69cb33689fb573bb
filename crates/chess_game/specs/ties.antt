-- What only joins code to the definitions: no claim rests on it.
pub mod PlayedMoves
pub mod PositionsLeft
pub mod Buckets
pub mod Packed
pub mod Material
pub mod CommentBytes
