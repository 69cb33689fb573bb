-- The squares on the ways of king and rook are compared with the named ones, by computation over 64 squares; so
-- castling in normal chess is legal exactly by what `MayCastle` asks (proofs/MayCastle). A right of Chess960 is sound
-- exactly if king and rook are on their first rank, the rook on the right's side (AtHome).
use Rattle.rules_laws.proofs.AtHome.{rights_are_at_home}
use Rattle.rules_laws.proofs.MayCastle.{normal_castling_is_legal}
use Rattle.rules_laws.proofs.moves.castling_needs_named_squares.Goals as goal

pub returns-clause-normal : goal.returns-clause-normal
returns-clause-normal c = normal_castling_is_legal

pub returns-clause-fischerandom : goal.returns-clause-fischerandom
returns-clause-fischerandom c = rights_are_at_home
