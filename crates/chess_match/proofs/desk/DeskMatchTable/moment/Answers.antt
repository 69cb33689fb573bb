-- One step passes at the table: the clock is read (ClockAsked). The pipes and the witness stay as they were (AtDesk).
use Rattle.chess_match.proofs.{AtDesk.clock_moves, ClockAsked.asked_one}
use Rattle.chess_match.proofs.desk.DeskMatchTable.moment.Goals as goal

pub returns-clause-passes : goal.returns-clause-passes
returns-clause-passes g c =
    clock_moves _ _ _ _ _ _ _ c.now.result (asked_one _ _ c.now.result c.now.ensures.moment c.now.ensures.rest)
