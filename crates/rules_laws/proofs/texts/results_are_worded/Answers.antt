-- The text of each verdict's result, and which draw is declared where none, one or both can be claimed, by computation
-- (KnownTexts).
use Rattle.rules_laws.proofs.KnownTexts.{results_are_worded}
use Rattle.rules_laws.proofs.texts.results_are_worded.Goals as goal

pub returns : goal.returns
returns c = results_are_worded
