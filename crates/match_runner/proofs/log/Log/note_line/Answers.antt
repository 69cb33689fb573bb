-- What is logged is the engine's line, or `line too long` for one that was too long (`None`).
use Rattle.match_runner.proofs.log.Log.note_line.Goals as goal

pub returns-in-Some : goal.returns-in-Some
returns-in-Some g c = record {
  logs = rw c.in-Some.is (c.add_line.ensures.logged, c.add_line.ensures.first, c.add_line.ensures.moment);
}

pub returns-in-None : goal.returns-in-None
returns-in-None g c = record {
  logs = rw c.in-None.is
      (c.add_line-in-None.ensures.logged, c.add_line-in-None.ensures.first, c.add_line-in-None.ensures.moment);
}
