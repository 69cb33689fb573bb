-- A side's turns were opened as often as it has moved, or once more: at each moment (OpeningLaw), and so in the whole
-- match (in_each of Points).
use Rattle.chess_match_laws.specs.Rows.{TurnsAreOpenedOnce}
use Rattle.chess_match_laws.proofs.{OpeningLaw.turns_are_opened_once, Points.in_each}
use Rattle.chess_match_laws.proofs.laws.turns_are_opened_once.Goals as goal

pub returns-clause-whole : goal.returns-clause-whole
returns-clause-whole c = in_each TurnsAreOpenedOnce turns_are_opened_once

pub returns-clause-so_far : goal.returns-clause-so_far
returns-clause-so_far c = turns_are_opened_once
