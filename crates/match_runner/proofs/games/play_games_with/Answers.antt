-- The clock was opened, and then came the host's steps at the table (HostSteps.plays_with); or memory ran out before
-- (HostSteps.no_memory).
use Rattle.std.proofs.Common.{◌∙◌, Err, ap}
use Rattle.std.proofs.lemmas.Result.{err_from_is_err_and}
use Rattle.match_runner.proofs.HostSteps.{no_memory, plays_with}
use Rattle.match_runner.proofs.games.play_games_with.Goals as goal

pub returns-in_err-tables : goal.returns-in_err-tables
returns-in_err-tables g c =
    let e = err_from_is_err_and c.from_residual.result c.from_residual.ensures.1 in
    record { plays = no_memory c.args.plan.now c.from_residual.result _ _ (e.1 ∙ ap Err e.2) }

pub returns-in_err-game : goal.returns-in_err-game
returns-in_err-game g c =
    let e = err_from_is_err_and c.from_residual-in_err-game.result c.from_residual-in_err-game.ensures.1 in
    record { plays = no_memory c.args.plan.now c.from_residual-in_err-game.result _ _ (e.1 ∙ ap Err e.2) }

pub returns : goal.returns
returns g c = record {
  plays = plays_with c.args.plan.now c.play_games_by.result _ _ _ _ _ _ c.open_clock.ensures.passes
      c.play_games_by.ensures;
}
