pub mod Laws
pub mod Normal
