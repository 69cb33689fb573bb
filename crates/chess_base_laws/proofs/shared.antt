-- Lemmas for crates above: all are about definitions, none about functions. They can cite no other module of proofs/.
pub mod Normal
