-- The match is played over the ends of the engines' pipes, and its notes are logged. This is one step of the table, but
-- none of its host.
use Rattle.std.proofs.Common.{refl}
use Rattle.chess_match.specs.laws.Laws.{notes_given}
use Rattle.match_runner.proofs.HostSteps.{table_passes}
use Rattle.match_runner.proofs.host_table.HostTableGamesTable.play.Goals as goal

pub returns : goal.returns
returns g c =
    let r = c.relay.ensures.ran in
    record { played = (notes_given r.1 r.0, r.2, (r.0, r.1, refl, r.3), table_passes (g.H.Host.to_come c.args.self.now.host.now) c.args.self.now.host.ghost_name _ refl) }
