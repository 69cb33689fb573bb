-- Definitions for private contracts and proofs, here and in crates above: equal to those at the top of specs/, or parts
-- of them.
pub mod Cutting
