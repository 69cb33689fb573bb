-- After a call on the log that failed nothing is sent. Otherwise the text is sent, and that may fail
-- (Logged.logs_sent).
use Rattle.std.proofs.Common.{Bool, subst, sym}
use Rattle.match_runner.specs.Log.{Logged, log_seen}
use Rattle.match_runner.proofs.Logged.{logs_sent}
use Rattle.match_runner.proofs.log.send_unless_broken.Goals as goal

pub returns : goal.returns
returns g c =
    subst (λ (b : Bool). Logged (log_seen (g.E.Output.seen c.args.output.now) b)
    (log_seen (g.E.Output.seen c.send.new.writer) c.is_err.result) c.args.text.now) (sym c.if-broken.false)
    (logs_sent _ _ c.send.result _ _ c.requires c.send.ensures c.is_err.ensures.value)
