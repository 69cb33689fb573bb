-- What only joins code to the definitions: no claim rests on it.
pub mod Fronts
pub mod Held
