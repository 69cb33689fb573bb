-- What a side has left and what its moves took add up to what it was given: at each moment (ClockLaw), and so in the
-- whole match (in_each of Points).
use Rattle.chess_match_laws.specs.OfActs.{ClocksDoNotUnderflow}
use Rattle.chess_match_laws.proofs.{ClockLaw.clocks_do_not_underflow, Points.in_each}
use Rattle.chess_match_laws.proofs.laws.clocks_do_not_underflow.Goals as goal

pub returns-clause-whole : goal.returns-clause-whole
returns-clause-whole c = in_each ClocksDoNotUnderflow clocks_do_not_underflow

pub returns-clause-so_far : goal.returns-clause-so_far
returns-clause-so_far c = clocks_do_not_underflow
