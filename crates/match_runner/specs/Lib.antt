pub mod Games
pub mod GamesTable
pub mod Log
pub mod MemoryHost
pub mod ties
