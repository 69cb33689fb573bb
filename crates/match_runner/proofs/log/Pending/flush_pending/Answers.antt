-- The bytes that wait are sent, unless a call on the log failed before; none waits after that (Logged.adds_flushed).
use Rattle.std.proofs.Common.{ℕ, List, subst}
use Rattle.match_runner.specs.Log.{Logged, log_seen}
use Rattle.match_runner.proofs.Logged.{adds_flushed}
use Rattle.match_runner.proofs.log.Pending.flush_pending.Goals as goal

pub returns-clause-adds : goal.returns-clause-adds
returns-clause-adds g c = adds_flushed _ _ _ _
    (subst (λ (t : List ℕ). Logged (log_seen (g.E.Output.seen c.args.output.now) c.args.self.now.broken)
    (log_seen (g.E.Output.seen c.send_unless_broken-self.new.output) c.send_unless_broken-self.result) t)
    c.as_slice.ensures.value c.send_unless_broken-self.ensures) c.clear.ensures
