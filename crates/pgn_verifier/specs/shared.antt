-- Definitions for private contracts and proofs of this crate and of crates above: parts of those at the top of specs/.
pub mod Contradictions
