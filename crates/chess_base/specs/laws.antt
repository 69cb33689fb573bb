-- Claims about the definitions: each is the contract of a function that does nothing.
pub mod Reserve
pub mod Laws
pub mod Castles
