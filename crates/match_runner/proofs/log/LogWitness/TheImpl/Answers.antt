-- That the witness noted a note follows from the clause `logs`: the lines of the note were logged (Logged.noted).
use Rattle.match_runner.proofs.Logged.{noted}
use Rattle.match_runner.proofs.log.LogWitness.TheImpl.Goals as goal

pub note-tells : goal.note-tells
note-tells g c = noted g.E.Output.seen c.args.self.now c.new.self.now _ c.ensures.logs
