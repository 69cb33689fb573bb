-- For laws of normal chess in crates above, passed on: the reading of a FEN is that of its fields, step by step, and
-- then of the conditions (reading-steps, with its definitions); the rights that letters name, and whether none is
-- wrong, by options (rights_as_options, wells_as_options).
pub use Rattle.chess_fen.proofs.RooksNamed.{rights_as_options, wells_as_options}
pub use Rattle.chess_fen.proofs.Steps.{denoted_by, denoted_in, if_fit, reading-steps, steps, steps_to, third, unless_fault}
