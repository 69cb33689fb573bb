-- The games were written, and the score comes after them: that is the text of the match (GamesWritten.all_written,
-- fault_written), or a beginning of it where the score could not be written (GamesWritten.score_broken). Or the match
-- broke off in a game. Writing the score is no step at the table.
use Rattle.std.proofs.Common.{◌≡◌, None, Some, rules}
use Rattle.match_runner.proofs.GamesWritten.{all_written, broke_at_table, fault_written, score_broken}
use Rattle.std.proofs.lemmas.Result.{err_from_is_err_and}
use Rattle.match_runner.proofs.games.play_games_at.Goals as goal

pub returns-in_err-played : goal.returns-in_err-played
returns-in_err-played g c =
    let e = err_from_is_err_and c.from_residual.result c.from_residual.ensures.1 in
    rw (e.1, e.2) (record { plays = broke_at_table c.args.plan.now _ _ _ _ _ _ _ _ c.in_err-played.ensures })

pub returns-in_err-write_score : goal.returns-in_err-write_score
returns-in_err-write_score g c =
    let e = err_from_is_err_and c.from_residual-in_err-write_score.result c.from_residual-in_err-write_score.ensures.1
    in
    let h = score_broken c.args.plan.now _ _ _ _ _ _ _ _ c.in_ok-played.played c.in_ok-played.ensures
    c.in_err-write_score.ensures in
    rw (e.1, e.2) (record { plays = h })

pub returns-in-None : goal.returns-in-None
returns-in-None g c =
    let none : c.in_ok-played.played.fault ≡ None = search rules in
    let h = all_written c.args.plan.now _ _ _ _ _ _ _ _ c.in_ok-played.played c.in_ok-played.ensures
    c.in_ok-write_score.ensures none in
    record { plays = h }

pub returns-in-Some : goal.returns-in-Some
returns-in-Some g c =
    let is : c.in_ok-played.played.fault ≡ Some (c.in-Some.number, c.in-Some.side, c.in-Some.fault) = search rules in
    let h = fault_written c.args.plan.now _ _ _ _ _ _ _ _ c.in_ok-played.played c.in_ok-played.ensures
    c.in-Some.number c.in-Some.side c.in-Some.fault c.fault_text.result c.fault_text.ensures
    c.in_ok-write_score.ensures is in
    record { plays = h }
