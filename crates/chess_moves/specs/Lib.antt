pub mod Made
pub mod PositionHash
pub mod Promoting
pub mod Sets
pub mod shared
pub mod ties
