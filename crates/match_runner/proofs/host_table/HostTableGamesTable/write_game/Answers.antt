-- Writing a game is one step of the table, but none of its host.
use Rattle.match_runner.proofs.HostSteps.{table_passes, writes_at_table}
use Rattle.match_runner.proofs.host_table.HostTableGamesTable.write_game.Goals as goal

pub returns-clause-passes : goal.returns-clause-passes
returns-clause-passes g c =
    table_passes (g.H.Host.to_come c.args.self.now.host.now) c.args.self.now.host.ghost_name _ (writes_at_table _ _)
