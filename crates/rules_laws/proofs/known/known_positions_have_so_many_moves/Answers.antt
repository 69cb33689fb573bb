-- How many legal moves known positions have, and in which of Chess960 the king may castle, by computation
-- (KnownCounts).
use Rattle.rules_laws.proofs.KnownCounts.{castling_is_known, moves_are_as_many}
use Rattle.rules_laws.proofs.known.known_positions_have_so_many_moves.Goals as goal

pub returns-clause-count : goal.returns-clause-count
returns-clause-count c = moves_are_as_many

pub returns-clause-castling : goal.returns-clause-castling
returns-clause-castling c = castling_is_known
