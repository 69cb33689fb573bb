-- Whenever a line of an engine is read, it was sent a move exactly if its opponent has made one (MoveLaw); and a match
-- ends in the state after all its acts (Points, by induction over them).
use Rattle.chess_match_laws.proofs.{MoveLaw.moves_sent_are_known, Points.end_after_acts}
use Rattle.chess_match_laws.proofs.laws.moves_sent_are_known.Goals as goal

pub returns-clause-whole : goal.returns-clause-whole
returns-clause-whole c = moves_sent_are_known

pub returns-clause-after : goal.returns-clause-after
returns-clause-after c = end_after_acts
