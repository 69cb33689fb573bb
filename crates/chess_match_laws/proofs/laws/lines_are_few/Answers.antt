-- At each moment at most 22,000 + 10,002 * (limit + 1) lines were read of both engines (LineLaw), and so in the whole
-- match (in_each of Points).
use Rattle.chess_match_laws.specs.OfActs.{LinesAreFew}
use Rattle.chess_match_laws.proofs.{LineLaw.lines_are_few, Points.in_each}
use Rattle.chess_match_laws.proofs.laws.lines_are_few.Goals as goal

pub returns-clause-whole : goal.returns-clause-whole
returns-clause-whole c = in_each LinesAreFew lines_are_few

pub returns-clause-so_far : goal.returns-clause-so_far
returns-clause-so_far c = lines_are_few
