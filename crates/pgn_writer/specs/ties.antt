-- What only joins code to the definitions: no claim rests on it.
pub mod Kept
pub mod TagLines
pub mod Waiting
