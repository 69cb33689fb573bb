-- For each kind of note the lines that the log must have are those that were logged; an opening has none, and only sets
-- the moment.
use Rattle.std.proofs.Common.{refl}
use Rattle.match_runner.proofs.Logged.{logs_none}
use Rattle.match_runner.proofs.log.LogWitness.note.Goals as goal

pub returns-in-Line : goal.returns-in-Line
returns-in-Line g c = record { logs = rw c.in-Line.is c.note_line.ensures.logs }

pub returns-in-Opened : goal.returns-in-Opened
returns-in-Opened g c = record { logs = rw c.in-Opened.is (logs_none _, refl, refl) }

pub returns-in-Silent : goal.returns-in-Silent
returns-in-Silent g c = record {
  logs = rw c.in-Silent.is (c.add_line.ensures.logged, c.add_line.ensures.first, c.add_line.ensures.moment);
}

pub returns-in-OutputEnds : goal.returns-in-OutputEnds
returns-in-OutputEnds g c =
    let h = c.add_line-in-OutputEnds.ensures in
    record { logs = rw c.in-OutputEnds.is (h.logged, h.first, h.moment) }

pub returns-in-FailsToRead : goal.returns-in-FailsToRead
returns-in-FailsToRead g c =
    let h = c.add_line-in-FailsToRead.ensures in
    record { logs = rw c.in-FailsToRead.is (h.logged, h.first, h.moment) }

pub returns-in-FailsToWrite : goal.returns-in-FailsToWrite
returns-in-FailsToWrite g c =
    let h = c.add_line-in-FailsToWrite.ensures in
    record { logs = rw c.in-FailsToWrite.is (h.logged, h.first, h.moment) }

pub returns-in-Gives : goal.returns-in-Gives
returns-in-Gives g c = record { logs = rw c.in-Gives.is c.note_given.ensures.logs }
