-- By rules without a limit to waiting there are no silences (`asked_for`); a silence ends the match exactly if its side
-- is beyond its limit (`beyond`), and otherwise changes nothing, if the time for a reply runs already (`otherwise`).
-- All three are of proofs/Silences.
use Rattle.chess_match_laws.proofs.Silences.{silences_are_asked_for, silences_change_nothing, silences_end_matches}
use Rattle.chess_match_laws.proofs.laws.silences_end_matches.Goals as goal

pub returns-clause-asked_for : goal.returns-clause-asked_for
returns-clause-asked_for c = silences_are_asked_for

pub returns-clause-beyond : goal.returns-clause-beyond
returns-clause-beyond c = silences_end_matches

pub returns-clause-otherwise : goal.returns-clause-otherwise
returns-clause-otherwise c = silences_change_nothing
