-- What only joins code to the definitions: no claim rests on it.
pub mod FirstSeen
pub mod VariationParts
pub mod TagsLeft
pub mod Parentheses
