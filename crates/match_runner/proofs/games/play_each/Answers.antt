-- The invariant (GamesWritten.SoFar): the games so far were played without a fault, written and logged, and the score
-- counts them. A game without a fault keeps it (GamesWritten.one_more). The loop ends with a game that has a fault
-- (GamesWritten.with_fault), one that could not be started or written (GamesWritten.broke_off), or the last of the plan
-- (GamesWritten.all_played).
use Rattle.std.proofs.Common.{◌≡◌, ◌∙◌, ◌≤◌, ◌<◌, ◌+◌, ◌++◌, ◌∷◌, [], Ok, None, Some, subst, sym, ap, arith, rules}
use Rattle.chess_match.specs.declared.run.MatchEnd.{MatchEnd}
use Rattle.match_runner.specs.{Games.first_side, ties.Playing.HasPlayed, ties.Playing.score_after, Log.log_seen, declared.score.Score.Score}
use Rattle.match_runner.proofs.GamesWritten.{SoFar, start, one_more, with_fault, broke_off, all_played}
use Rattle.std.proofs.lemmas.Result.{err_from_is_err_and}
use Rattle.match_runner.proofs.games.play_each.Goals as goal

pub loop-number-init : goal.loop-number-init
loop-number-init g c =
    let t = g.T.GamesTable.coming c.args.table.now in
    let p = g.T.GamesTable.to_come c.args.table.now in
    let w = g.W.Output.seen c.args.output.now in
    let l = log_seen (g.E.Output.seen c.args.log.now.output) c.args.log.now.broken in (
      c.requires,
      [],
      subst (λ (v : Score). SoFar c.args.plan.now t t p p w w l l 1 v []) (sym c.new-score.ensures)
          (start c.args.plan.now t p w l),
    )

pub returns-in_err-end : goal.returns-in_err-end
returns-in_err-end g c =
    let t = g.T.GamesTable.coming c.args.table.now in
    let t' = g.T.GamesTable.coming c.loop-number.table in
    let t'' = g.T.GamesTable.coming c.play_game.new.table in
    let p = g.T.GamesTable.to_come c.args.table.now in
    let w = g.W.Output.seen c.args.output.now in
    let p' = g.T.GamesTable.to_come c.loop-number.table in
    let w' = g.W.Output.seen c.loop-number.output in
    let p'' = g.T.GamesTable.to_come c.play_game.new.table in
    let w'' = g.W.Output.seen c.play_game.new.output in
    let l = log_seen (g.E.Output.seen c.args.log.now.output) c.args.log.now.broken in
    let l' = log_seen (g.E.Output.seen c.loop-number.log.output) c.loop-number.log.broken in
    let l'' = log_seen (g.E.Output.seen c.play_game.new.log.output) c.play_game.new.log.broken in
    let le : c.loop-number.number + 1 ≤ c.args.plan.now.games =
    (let t = c.loop-number-test.true in let e = c.game_count.ensures.value in omega (arith, t, e)) in
    let e = err_from_is_err_and c.from_residual.result c.from_residual.ensures.1 in
    rw (e.1, e.2) (broke_off c.args.plan.now t t' t'' p p' p'' w w' w'' l l' l'' (c.loop-number.number + 1) c.loop-number.score
    c.loop-number.invariant.1 c.loop-number.invariant.2 c.in_err-end.field-0.0 le c.in_err-end.ensures.played)

pub returns-in-Some : goal.returns-in-Some
returns-in-Some g c =
    let t = g.T.GamesTable.coming c.args.table.now in
    let t' = g.T.GamesTable.coming c.loop-number.table in
    let t'' = g.T.GamesTable.coming c.play_game.new.table in
    let plan = c.args.plan.now in
    let p = g.T.GamesTable.to_come c.args.table.now in
    let w = g.W.Output.seen c.args.output.now in
    let p' = g.T.GamesTable.to_come c.loop-number.table in
    let w' = g.W.Output.seen c.loop-number.output in
    let p'' = g.T.GamesTable.to_come c.play_game.new.table in
    let w'' = g.W.Output.seen c.play_game.new.output in
    let l = log_seen (g.E.Output.seen c.args.log.now.output) c.args.log.now.broken in
    let l' = log_seen (g.E.Output.seen c.loop-number.log.output) c.loop-number.log.broken in
    let l'' = log_seen (g.E.Output.seen c.play_game.new.log.output) c.play_game.new.log.broken in
    let number = c.loop-number.number + 1 in
    let le : number ≤ plan.games = (let t = c.loop-number-test.true in let e = c.game_count.ensures.value in
    omega (arith, t, e)) in
    let small : number ≤ 65535 =
    (let t = c.loop-number-test.true in let few = c.game_count.ensures.few in omega (arith, t, few)) in
    let one = c.in_ok-end.ensures.played in
    let found : c.in_ok-end.end.fault ≡ Some (c.in-Some.side, c.in-Some.fault) = search rules in
    let is = ap (λ (e : MatchEnd). e.fault) one.1 ∙ found in
    let counted : c.after-score.result ≡ score_after (first_side number) one.0.end.outcome c.loop-number.score =
    c.after-score.ensures
    ∙ ap (λ side. score_after side c.in_ok-end.end.outcome c.loop-number.score) c.first_side.ensures
    ∙ ap (λ (e : MatchEnd). score_after (first_side number) e.outcome c.loop-number.score) (sym one.1)
    in
    subst (λ (v : Score).
    HasPlayed plan t p p'' w w'' l l'' (Ok (record { score = v; fault = Some (number, c.in-Some.side, c.in-Some.fault) })))
    (sym counted)
    (with_fault plan t t' t'' p p' p'' w w' w'' l l' l'' number c.loop-number.score c.loop-number.invariant.1
    c.loop-number.invariant.2 one.0
    c.in-Some.side c.in-Some.fault le small one.2 is one.3 one.4 one.5 one.6)

pub loop-number-preserved : goal.loop-number-preserved
loop-number-preserved g c =
    let t = g.T.GamesTable.coming c.args.table.now in
    let t' = g.T.GamesTable.coming c.loop-number.table in
    let t'' = g.T.GamesTable.coming c.play_game.new.table in
    let plan = c.args.plan.now in
    let p = g.T.GamesTable.to_come c.args.table.now in
    let w = g.W.Output.seen c.args.output.now in
    let p' = g.T.GamesTable.to_come c.loop-number.table in
    let w' = g.W.Output.seen c.loop-number.output in
    let p'' = g.T.GamesTable.to_come c.play_game.new.table in
    let w'' = g.W.Output.seen c.play_game.new.output in
    let l = log_seen (g.E.Output.seen c.args.log.now.output) c.args.log.now.broken in
    let l' = log_seen (g.E.Output.seen c.loop-number.log.output) c.loop-number.log.broken in
    let l'' = log_seen (g.E.Output.seen c.play_game.new.log.output) c.play_game.new.log.broken in
    let number = c.loop-number.number + 1 in
    let le : number ≤ plan.games = (let t = c.loop-number-test.true in let e = c.game_count.ensures.value in
    omega (arith, t, e)) in
    let small : number ≤ 65535 =
    (let t = c.loop-number-test.true in let few = c.game_count.ensures.few in omega (arith, t, few)) in
    let one = c.in_ok-end.ensures.played in
    let found : c.in_ok-end.end.fault ≡ None = search rules in
    let is = ap (λ (e : MatchEnd). e.fault) one.1 ∙ found in
    let counted : c.after-score.result ≡ score_after (first_side number) one.0.end.outcome c.loop-number.score =
    c.after-score.ensures
    ∙ ap (λ side. score_after side c.in_ok-end.end.outcome c.loop-number.score) c.first_side.ensures
    ∙ ap (λ (e : MatchEnd). score_after (first_side number) e.outcome c.loop-number.score) (sym one.1)
    in
    let games = c.loop-number.invariant.1 ++ one.0 ∷ [] in (
      c.play_game.ensures.limit,
      games,
      subst (λ (v : Score). SoFar plan t t'' p p'' w w'' l l'' (number + 1) v games) (sym counted)
          (one_more plan t t' t'' p p' p'' w w' w'' l l' l'' number c.loop-number.score c.loop-number.invariant.1
          c.loop-number.invariant.2 one.0 le small one.2 is one.3 one.4 one.5 one.6 one.7),
    )

pub returns : goal.returns
returns g c =
    let past : c.args.plan.now.games < c.loop-number.number + 1 =
    (let t = c.loop-number-test.false in let e = c.game_count.ensures.value in omega (arith, t, e)) in
    let l = log_seen (g.E.Output.seen c.args.log.now.output) c.args.log.now.broken in
    let l' = log_seen (g.E.Output.seen c.loop-number.log.output) c.loop-number.log.broken in
    all_played c.args.plan.now (g.T.GamesTable.coming c.args.table.now) (g.T.GamesTable.coming c.loop-number.table)
    (g.T.GamesTable.to_come c.args.table.now) (g.T.GamesTable.to_come c.loop-number.table)
    (g.W.Output.seen c.args.output.now) (g.W.Output.seen c.loop-number.output) l l'
    (c.loop-number.number + 1) c.loop-number.score c.loop-number.invariant.1 c.loop-number.invariant.2 past
