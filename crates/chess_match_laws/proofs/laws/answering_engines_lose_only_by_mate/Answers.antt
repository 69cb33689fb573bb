-- An engine that answers has no fault in the report, and loses only by mate, whatever the other does (Answering, act by
-- act).
use Rattle.chess_match_laws.proofs.Answering.{answering_engines_are_blameless}
use Rattle.chess_match_laws.proofs.laws.answering_engines_lose_only_by_mate.Goals as goal

pub returns : goal.returns
returns c = answering_engines_are_blameless
