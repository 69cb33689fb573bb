-- The moves of three games with their numbers, of two also the result, by computation (KnownTexts).
use Rattle.rules_laws.proofs.KnownTexts.{moves_are_numbered}
use Rattle.rules_laws.proofs.texts.moves_are_numbered.Goals as goal

pub returns : goal.returns
returns c = moves_are_numbered
