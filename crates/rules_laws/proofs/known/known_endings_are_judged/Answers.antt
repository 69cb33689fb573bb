-- The verdict on each small ending is computed from its FEN (KnownEndings).
use Rattle.rules_laws.proofs.KnownEndings.{endings_are_judged}
use Rattle.rules_laws.proofs.known.known_endings_are_judged.Goals as goal

pub returns : goal.returns
returns c = endings_are_judged
