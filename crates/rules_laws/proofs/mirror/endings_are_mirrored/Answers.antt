-- Mate and stalemate are mirrored since the mirror of a legal move is legal; insufficient material is, since pieces of
-- a kind are as many, and bishops on squares of one colour stay on one colour (MirrorEndings).
use Rattle.rules_laws.proofs.MirrorEndings.{mirror_ends_alike}
use Rattle.rules_laws.proofs.mirror.endings_are_mirrored.Goals as goal

pub returns : goal.returns
returns c = mirror_ends_alike
