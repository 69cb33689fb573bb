-- In a game without a fault no write to an engine failed (GameFaults).
use Rattle.match_runner_laws.proofs.GameFaults.{only_last_games_have_failed_writes}
use Rattle.match_runner_laws.proofs.games.only_last_games_have_failed_writes.Goals as goal

pub returns : goal.returns
returns c = only_last_games_have_failed_writes
