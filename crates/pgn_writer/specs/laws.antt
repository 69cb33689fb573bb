-- Definitions that only laws need.
pub mod Layout
