-- What passed at the table passed at the host, to which the table still holds the reference (HostSteps.by_table,
-- name_kept).
use Rattle.std.proofs.Common.{ap, subst, sym}
use Rattle.match_runner.specs.GamesTable.{HostFuture, Outputs, PlaysBy, StepsPass, at_host}
use Rattle.match_runner.specs.Log.{log_seen}
use Rattle.match_runner.proofs.HostSteps.{by_table, name_kept}
use Rattle.match_runner.proofs.games.play_games_by.Goals as goal

pub returns : goal.returns
returns g c =
    let h = c.play_games_at.ensures.plays in
    let p = g.H.Host.to_come c.args.host.now in
    let p' = g.H.Host.to_come c.play_games_at.new.table.host.now in
    let coming = g.H.Clock.Moments.coming c.args.seat.clock in
    let d : Outputs = record {
      output = g.W.Output.seen c.args.output.now;
      log = log_seen (g.E.Output.seen c.args.log.now.output) c.args.log.now.broken;
    } in
    let d' : Outputs = record {
      output = g.W.Output.seen c.play_games_at.new.output;
      log = log_seen (g.E.Output.seen c.play_games_at.new.log.output) c.play_games_at.new.log.broken;
    } in
    let kept = name_kept p p' _ _ _ h.4 in
    subst (λ (q : HostFuture). PlaysBy c.args.plan.now c.play_games_at.result coming
    (λ at_table. StepsPass p q (at_host at_table)) d d')
    (sym (ap g.H.Host.to_come (c.host-1.given.1 kept)))
    (by_table c.args.plan.now c.play_games_at.result coming p p' _ _ d d' h)
