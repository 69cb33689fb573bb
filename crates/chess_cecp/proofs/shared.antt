-- Lemmas for crates above, about definitions and never about functions: on lines and their servers (Lines), and on
-- refusals of a session (Refusals). Both only pass on lemmas of other files of proofs/.
pub mod Lines
pub mod Refusals
