-- What laws of the reports on games speak of; the laws are in pgn_verifier_laws.
pub mod Reasons
pub mod Reported
