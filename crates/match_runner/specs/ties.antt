-- What only joins code to the definitions: no claim rests on it.
pub mod AtHost
pub mod Logging
pub mod Playing
