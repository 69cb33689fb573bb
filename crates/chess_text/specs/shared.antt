-- Definitions for private contracts and proofs of this crate and of crates above: equal to those at the top of specs/,
-- or parts of them. Of the claims only `texts_have_parts` (chess_text_laws) speaks of them.
pub mod Reader
pub mod Fitting
