pub mod Faults
pub mod Players
pub mod Entries
pub mod ReadBack
pub mod Hosts
pub mod OneMatch
