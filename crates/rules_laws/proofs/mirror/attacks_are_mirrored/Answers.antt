-- Mirrored pieces attack the mirrored squares, since ranks, files and the ways between squares are mirrored too
-- (MirrorAttacks).
use Rattle.rules_laws.proofs.MirrorAttacks.{mirror_attacks_alike}
use Rattle.rules_laws.proofs.mirror.attacks_are_mirrored.Goals as goal

pub returns : goal.returns
returns c = mirror_attacks_alike
