-- What laws of matches speak of; the laws are in chess_match_laws and match_runner.
pub mod Laws
