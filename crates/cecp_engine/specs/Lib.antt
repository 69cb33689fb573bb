pub mod Items
pub mod EngineLines
pub mod Levels
pub mod Clocks
pub mod Seen
pub mod shared
pub mod ties
