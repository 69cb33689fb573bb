-- What only joins code to the definitions: no claim rests on it.
pub mod Lines
pub mod Tallies
pub mod MoveTexts
