-- A king that goes so can only castle: its end isn't next to it, or is its own rook. Castling leaves king and rook on
-- the named squares, in normal chess (normal_ends) and in Chess960 (fischerandom_ends of Castled).
use Rattle.rules_laws.proofs.Castled.{normal_ends, fischerandom_ends}
use Rattle.rules_laws.proofs.moves.castling_ends_on_named_squares.Goals as goal

pub returns-clause-normal : goal.returns-clause-normal
returns-clause-normal c = normal_ends

pub returns-clause-fischerandom : goal.returns-clause-fischerandom
returns-clause-fischerandom c = fischerandom_ends
