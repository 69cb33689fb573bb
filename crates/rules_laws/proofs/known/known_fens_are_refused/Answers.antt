-- Each FEN is read by computation, and its fault, or its position's FEN, is the one named (KnownFens).
use Rattle.rules_laws.proofs.KnownFens.{fens_are_refused}
use Rattle.rules_laws.proofs.known.known_fens_are_refused.Goals as goal

pub returns : goal.returns
returns c = fens_are_refused
