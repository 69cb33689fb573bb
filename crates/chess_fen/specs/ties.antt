-- What only joins code to the definitions: no claim rests on it.
pub mod Reader
pub mod Runs
pub mod Fields
pub mod Loops
