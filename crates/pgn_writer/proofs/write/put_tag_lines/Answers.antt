-- The lines have three parts: the roster, the tags after it, and an empty line (GameTexts.tags_are). If the first or
-- second can't be put, a beginning of the whole was (GameTexts.first_broke, second_broke); with the third the whole is,
-- or a beginning of it (third_put).
use Rattle.std.proofs.Common.{refl, ◌∙◌}
use Rattle.pgn_writer.proofs.Added.{adds_exit}
use Rattle.pgn_writer.proofs.GameTexts.{first_broke, second_broke, third_put, tags_are}
use Rattle.pgn_writer.proofs.write.put_tag_lines.Goals as goal

pub returns-in_err-put_roster-clause-added : goal.returns-in_err-put_roster-clause-added
returns-in_err-put_roster-clause-added g c =
    let prefix = c.args.lines.now.prefix.now in
    adds_exit _ _ c.from_residual.result _ _ _
    (first_broke _ _ _ _ _ _ _
    (tags_are prefix prefix prefix c.args.tags.now c.args.outcome c.args.game.now.state.start _
    c.args.game.now.state c.requires refl refl refl refl) c.in_err-put_roster.ensures.added)
    c.from_residual.ensures.0

pub returns-in_err-put_further-clause-added : goal.returns-in_err-put_further-clause-added
returns-in_err-put_further-clause-added g c =
    let prefix = c.args.lines.now.prefix.now in
    adds_exit _ _ c.from_residual-in_err-put_further.result _ _ _
    (second_broke _ _ _ _ _ _ _ _ _
    (tags_are prefix c.put_roster.new.lines.prefix.now prefix c.args.tags.now c.args.outcome
    c.start.result c.of-termination.result c.args.game.now.state c.requires c.start.ensures
    c.of-termination.ensures c.in_ok-put_roster.ensures.kept.prefix refl) c.in_ok-put_roster.ensures.added
    c.in_err-put_further.ensures.added)
    c.from_residual-in_err-put_further.ensures.0

pub returns-clause-added : goal.returns-clause-added
returns-clause-added g c =
    third_put _ _ _ _ c.put_line.result _ _ _ _ _ _ _ _
    (tags_are c.args.lines.now.prefix.now c.put_roster.new.lines.prefix.now c.put_further.new.lines.prefix.now
    c.args.tags.now c.args.outcome c.start.result c.of-termination.result c.args.game.now.state
    c.requires c.start.ensures c.of-termination.ensures c.in_ok-put_roster.ensures.kept.prefix
    (c.in_ok-put_further.ensures.kept.prefix ∙ c.in_ok-put_roster.ensures.kept.prefix))
    c.in_ok-put_roster.ensures.added c.in_ok-put_further.ensures.added c.put_line.ensures.added
