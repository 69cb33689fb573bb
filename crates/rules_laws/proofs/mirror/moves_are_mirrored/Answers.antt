-- A move and its mirror are both legal or neither, and lead to mirrored positions, but for the fullmove number: each
-- test of a move, and each part of the position after it, is the same in the mirror (MirrorMoves, MirrorAfter).
use Rattle.rules_laws.proofs.MirrorAfter.{mirror_is_as_legal, mirror_moves_alike}
use Rattle.rules_laws.proofs.mirror.moves_are_mirrored.Goals as goal

pub returns-clause-legal : goal.returns-clause-legal
returns-clause-legal c = mirror_is_as_legal

pub returns-clause-after : goal.returns-clause-after
returns-clause-after c = mirror_moves_alike
