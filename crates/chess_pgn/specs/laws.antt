-- Claims about the definitions, each the contract of a function that does nothing; and what only these and the laws of
-- chess_pgn_laws need.
pub mod Offsets
pub mod Unreadable
pub mod WordKinds
pub mod TokenByToken
pub mod LineEnds
