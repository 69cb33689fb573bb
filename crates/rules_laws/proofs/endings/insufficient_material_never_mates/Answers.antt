-- No legal move makes insufficient material sufficient, so by induction over the moves the last position's isn't; and
-- there a side in check has a legal move of its king (insufficient_never_mates of NeverMated).
use Rattle.rules_laws.proofs.NeverMated.{insufficient_never_mates}
use Rattle.rules_laws.proofs.endings.insufficient_material_never_mates.Goals as goal

pub returns : goal.returns
returns c = insufficient_never_mates
