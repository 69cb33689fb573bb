-- Which positions that look alike are the same, by computation, and the pieces of those that are (KnownSame).
use Rattle.rules_laws.proofs.KnownSame.{positions_are_the_same, the_same_have_the_same_pieces}
use Rattle.rules_laws.proofs.known.known_positions_are_the_same.Goals as goal

pub returns-clause-known : goal.returns-clause-known
returns-clause-known c = positions_are_the_same

pub returns-clause-pieces : goal.returns-clause-pieces
returns-clause-pieces c = the_same_have_the_same_pieces
