-- The engines' lines fix the items known of each engine and which moves each is sent (SentByLinesLaw): at each moment,
-- and in the whole match (for the items by in_each of Points).
use Rattle.chess_match_laws.specs.OfActs.{ItemsAreSaid}
use Rattle.chess_match_laws.proofs.{Points.in_each, SentByLinesLaw.each_is_sent_so_far, SentByLinesLaw.each_is_sent_the_others, SentByLinesLaw.items_are_said}
use Rattle.chess_match_laws.proofs.laws.each_is_sent_the_others.Goals as goal

pub returns-clause-said : goal.returns-clause-said
returns-clause-said c = in_each ItemsAreSaid items_are_said

pub returns-clause-sent : goal.returns-clause-sent
returns-clause-sent c = each_is_sent_the_others

pub returns-clause-said_so_far : goal.returns-clause-said_so_far
returns-clause-said_so_far c = items_are_said

pub returns-clause-sent_so_far : goal.returns-clause-sent_so_far
returns-clause-sent_so_far c = each_is_sent_so_far
