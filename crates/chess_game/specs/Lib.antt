pub mod Line
pub mod Same
pub mod Results
pub mod Ends
pub mod Game
pub mod ties
