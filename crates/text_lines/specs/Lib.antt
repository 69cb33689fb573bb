pub mod Lines
pub mod Next
pub mod Words
pub mod laws
pub mod ties
