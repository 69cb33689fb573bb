-- Lemmas for crates above: all are about definitions, none about functions. They can cite no other module of proofs/.
pub mod Denoted
pub mod FileLetters
pub mod Plain
pub mod Ranks
pub mod RightLetters
pub mod Steps
pub mod Variants
