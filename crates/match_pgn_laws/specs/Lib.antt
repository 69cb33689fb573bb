pub mod Scores
pub mod Verified
