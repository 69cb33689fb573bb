-- A game was started, played, written (or that failed) and finished: its steps passed in this order
-- (GamesWritten.was_written, was_not_written); or its engines could not be started (GamesWritten.was_not_started). The
-- limit of its half-moves stays (GamesWritten.limit_kept).
use Rattle.std.proofs.Common.{◌≡◌, ◌∙◌, ap, refl, subst}
use Rattle.chess_game.specs.Game.{Seen}
use Rattle.chess_match.specs.{Played.PlayedNoting, Played.World, declared.run.Setup.Setup}
use Rattle.match_runner.proofs.GamesWritten.{limit_kept, was_not_started, was_not_written, was_written}
use Rattle.std.proofs.lemmas.Result.{err_from_is_err_and}
use Rattle.match_runner.proofs.games.play_game.Goals as goal

pub returns-in_err-engines-clause-limit : goal.returns-in_err-engines-clause-limit
returns-in_err-engines-clause-limit g c = ap (λ (v : Seen). v.limit) c.start.ensures.game ∙ c.requires.limit

pub returns-in_err-engines-clause-played : goal.returns-in_err-engines-clause-played
returns-in_err-engines-clause-played g c =
    let p = err_from_is_err_and c.from_residual.result c.from_residual.ensures.1 in
    rw (p.1, p.2) (was_not_started c.args.plan.now c.args.number (g.T.GamesTable.coming c.args.table.now)
    (g.T.GamesTable.coming c.start.new.self) _ _ _ _ _ _ _ c.in_err-engines.field-0.0
    c.command_of.ensures c.command_of-2.ensures refl c.in_err-engines.ensures.fails c.in_err-engines.ensures.passes)

pub returns-in-Ok-clause-limit : goal.returns-in-Ok-clause-limit
returns-in-Ok-clause-limit g c =
    let r = c.play-end.ensures.played in
    ap (λ (v : Seen). v.limit) (c.finish-killed.ensures.game ∙ c.write_game-written.ensures.game)
    ∙ limit_kept r.0 _ c.play-end.result _ _ r.2
    ∙ ap (λ (v : Seen). v.limit) c.start.ensures.game ∙ c.requires.limit

pub returns-in-Ok-clause-played : goal.returns-in-Ok-clause-played
returns-in-Ok-clause-played g c =
    let r = c.play-end.ensures.played in
    let before : World = record {
      engines = g.T.GamesTable.devices c.in_ok-engines.engines;
      coming = g.T.GamesTable.coming c.start.new.self;
      game = g.T.GamesTable.game c.start.new.self;
    } in
    let after : World = record {
      engines = g.T.GamesTable.devices c.play-end.new.engines;
      coming = g.T.GamesTable.coming c.play-end.new.self;
      game = g.T.GamesTable.game c.play-end.new.self;
    } in
    let of = subst (λ (s : Setup). PlayedNoting (λ given. given ≡ r.0) s c.play-end.result before after)
    c.setup_of-setup.ensures r.2 in
    was_written c.args.plan.now c.args.number _ _ _ _ _ _ _ _ _ _ _ _ _ _ _ _ _ _
    (record { before = before; after = after; end = c.play-end.result; notes = r.0; killed = c.finish-killed.result })
    c.tags_of-tags.result c.command_of.ensures c.command_of-2.ensures c.logged_side.ensures c.tags_of-tags.ensures
    refl c.in_ok-engines.ensures.passes c.in_ok-engines.ensures.fresh c.in_ok-engines.ensures.clock refl r.1 r.3
    c.finish-killed.ensures.passes c.write_game-written.ensures.clock c.finish-killed.ensures.clock
    c.note_killed.ensures
    (ap (λ (v : Seen). v.limit) c.start.ensures.game ∙ c.requires.limit, c.finish-killed.ensures.spared, of)
    c.in-Ok.ensures.sends c.in-Ok.ensures.passes

pub returns-in-Err-clause-limit : goal.returns-in-Err-clause-limit
returns-in-Err-clause-limit g c =
    let r = c.play-end.ensures.played in
    ap (λ (v : Seen). v.limit) (c.finish-killed.ensures.game ∙ c.write_game-written.ensures.game)
    ∙ limit_kept r.0 _ c.play-end.result _ _ r.2
    ∙ ap (λ (v : Seen). v.limit) c.start.ensures.game ∙ c.requires.limit

pub returns-in-Err-clause-played : goal.returns-in-Err-clause-played
returns-in-Err-clause-played g c =
    let r = c.play-end.ensures.played in
    let before : World = record {
      engines = g.T.GamesTable.devices c.in_ok-engines.engines;
      coming = g.T.GamesTable.coming c.start.new.self;
      game = g.T.GamesTable.game c.start.new.self;
    } in
    let after : World = record {
      engines = g.T.GamesTable.devices c.play-end.new.engines;
      coming = g.T.GamesTable.coming c.play-end.new.self;
      game = g.T.GamesTable.game c.play-end.new.self;
    } in
    let of = subst (λ (s : Setup). PlayedNoting (λ given. given ≡ r.0) s c.play-end.result before after)
    c.setup_of-setup.ensures r.2 in
    was_not_written c.args.plan.now c.args.number _ _ _ _ _ _ _ _ _ _ _ _ _ _ _ _ _ _
    (record { before = before; after = after; end = c.play-end.result; notes = r.0; killed = c.finish-killed.result })
    c.tags_of-tags.result c.command_of.ensures c.command_of-2.ensures c.logged_side.ensures c.tags_of-tags.ensures
    refl c.in_ok-engines.ensures.passes c.in_ok-engines.ensures.fresh c.in_ok-engines.ensures.clock refl r.1 r.3
    c.finish-killed.ensures.passes c.write_game-written.ensures.clock c.finish-killed.ensures.clock
    c.note_killed.ensures
    (ap (λ (v : Seen). v.limit) c.start.ensures.game ∙ c.requires.limit, c.finish-killed.ensures.spared, of)
    c.in-Err.ensures.sends c.in-Err.ensures.passes
