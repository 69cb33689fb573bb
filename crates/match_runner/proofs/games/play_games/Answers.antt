-- What `play_games_with` claims of the host of processes gives what is claimed here of the output and the log, once the
-- host's steps are left out (GamesWritten.plays_games).
use Rattle.match_runner.proofs.GamesWritten.{plays_games}
use Rattle.match_runner.proofs.games.play_games.Goals as goal

pub returns : goal.returns
returns g c =
    let h = c.play_games_with.ensures.plays in
    plays_games c.args.plan.now c.play_games_with.result h.0 _ _ h.2
