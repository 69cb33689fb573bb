-- The notes have all events of the match, in order (`in_order`), so that these lead to its end (`of_matches`), and, in
-- order, all lines sent, all lines read, and all moments (NotesLaw).
use Rattle.chess_match_laws.proofs.NotesLaw.{all_events, all_lines, all_lines_read, all_moments, in_order}
use Rattle.chess_match_laws.proofs.laws.notes_have_all.Goals as goal

pub returns-clause-of_matches : goal.returns-clause-of_matches
returns-clause-of_matches c = all_events

pub returns-clause-in_order : goal.returns-clause-in_order
returns-clause-in_order c = in_order

pub returns-clause-lines_of_matches : goal.returns-clause-lines_of_matches
returns-clause-lines_of_matches c = all_lines

pub returns-clause-lines_read : goal.returns-clause-lines_read
returns-clause-lines_read c = all_lines_read

pub returns-clause-moments : goal.returns-clause-moments
returns-clause-moments c = all_moments
