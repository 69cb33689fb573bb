-- The pings that an engine is sent have the numbers 1, 2 and so on: at each moment (PingLaw), and so in the whole match
-- (in_each of Points).
use Rattle.chess_match_laws.proofs.{PingLaw.pings_are_numbered, Points.in_each}
use Rattle.chess_match_laws.specs.Rows.{PingsAreNumbered}
use Rattle.chess_match_laws.proofs.laws.pings_are_numbered.Goals as goal

pub returns-clause-whole : goal.returns-clause-whole
returns-clause-whole c = in_each PingsAreNumbered pings_are_numbered

pub returns-clause-so_far : goal.returns-clause-so_far
returns-clause-so_far c = pings_are_numbered
