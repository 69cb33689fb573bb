-- The first six tags of any game, the others of three games, the tag Termination, and texts that are cut, by
-- computation (KnownTexts).
use Rattle.rules_laws.proofs.KnownTexts.{tags_are_in_order}
use Rattle.rules_laws.proofs.texts.tags_are_in_order.Goals as goal

pub returns : goal.returns
returns c = tags_are_in_order
