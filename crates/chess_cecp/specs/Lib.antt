pub mod Serving
pub mod Commands
pub mod Declaring
pub mod Held
pub mod Session
pub mod Served
pub mod ties
