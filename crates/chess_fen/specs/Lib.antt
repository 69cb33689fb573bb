pub mod Texts
pub mod RightNames
pub mod Writing
pub mod Reading
pub mod Denotation
pub mod FenFaults
pub mod shared
pub mod ties
