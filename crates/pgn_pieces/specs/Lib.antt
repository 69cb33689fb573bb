pub mod Pieces
pub mod Places
pub mod Stream
pub mod laws
pub mod shared
pub mod ties
