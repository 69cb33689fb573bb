pub mod Parts
pub mod Moves
pub mod San
pub mod laws
pub mod shared
pub mod ties
