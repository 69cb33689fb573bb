-- An engine is sent the other's moves, each once and in order (MoveLaw): at each moment all but at most the last
-- (`each`), and all whenever its line is read (`all`) or the clock for its opening (`opened`). At the end its blocks
-- have all, unless a failed write to it ended the match (`given`); if none of them failed, all were sent (`whole`).
use Rattle.chess_match_laws.proofs.MoveLaw.{all_moves_are_given, all_moves_are_sent, all_sent_at_lines, all_sent_at_openings, moves_are_sent}
use Rattle.chess_match_laws.proofs.laws.moves_are_sent_once.Goals as goal

pub returns-clause-whole : goal.returns-clause-whole
returns-clause-whole c = all_moves_are_sent

pub returns-clause-given : goal.returns-clause-given
returns-clause-given c = all_moves_are_given

pub returns-clause-each : goal.returns-clause-each
returns-clause-each c = moves_are_sent

pub returns-clause-all : goal.returns-clause-all
returns-clause-all c = all_sent_at_lines

pub returns-clause-opened : goal.returns-clause-opened
returns-clause-opened c = all_sent_at_openings
