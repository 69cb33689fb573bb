-- The moves are read off the two engines' lines: at each moment (ReadLaw), and so in the whole match (in_each of
-- Points).
use Rattle.chess_match_laws.specs.OfActs.{MovesAreRead}
use Rattle.chess_match_laws.proofs.{Points.in_each, ReadLaw.moves_are_read}
use Rattle.chess_match_laws.proofs.laws.moves_are_read.Goals as goal

pub returns-clause-whole : goal.returns-clause-whole
returns-clause-whole c = in_each MovesAreRead moves_are_read

pub returns-clause-so_far : goal.returns-clause-so_far
returns-clause-so_far c = moves_are_read
