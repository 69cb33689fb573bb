mod FoundTexts
mod Readings
pub mod shared
