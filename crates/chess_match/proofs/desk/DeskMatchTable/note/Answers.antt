-- One step passes at the table: the witness is given the note. The pipes and the clock stay as they were (AtDesk).
use Rattle.chess_match.proofs.AtDesk.{note_moves}
use Rattle.chess_match.proofs.desk.DeskMatchTable.note.Goals as goal

pub returns-clause-passes : goal.returns-clause-passes
returns-clause-passes g c = note_moves _ _ _ _ _ _ _ c.note.ensures
