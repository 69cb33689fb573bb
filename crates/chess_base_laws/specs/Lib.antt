pub mod Laws
pub mod Castles
pub mod Normal
