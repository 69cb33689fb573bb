-- A game's text has three parts: its tags with an empty line, its move text, and an empty line (GameTexts.game_is). If
-- the first or second can't be put, a beginning of the whole was (GameTexts.first_broke, second_broke); with the third
-- the whole is, or a beginning of it (third_put).
use Rattle.std.proofs.Common.{refl, ◌∙◌}
use Rattle.pgn_writer.proofs.Added.{adds_exit}
use Rattle.pgn_writer.proofs.GameTexts.{first_broke, second_broke, third_put, game_is}
use Rattle.pgn_writer.proofs.write.put_game.Goals as goal

pub returns-in_err-put_tag_lines-clause-added : goal.returns-in_err-put_tag_lines-clause-added
returns-in_err-put_tag_lines-clause-added g c =
    let prefix = c.args.lines.now.prefix.now in
    adds_exit _ _ c.from_residual.result _ _ _
    (first_broke _ _ _ _ _ _ _ (game_is prefix prefix prefix c.args.tags.now c.args.game.now.state refl refl)
    c.in_err-put_tag_lines.ensures.added)
    c.from_residual.ensures.0

pub returns-in_err-put_move_text-clause-added : goal.returns-in_err-put_move_text-clause-added
returns-in_err-put_move_text-clause-added g c =
    let prefix = c.args.lines.now.prefix.now in
    adds_exit _ _ c.from_residual-in_err-put_move_text.result _ _ _
    (second_broke _ _ _ _ _ _ _ _ _
    (game_is prefix c.put_tag_lines.new.lines.prefix.now prefix c.args.tags.now c.args.game.now.state
    c.in_ok-put_tag_lines.ensures.kept.prefix refl) c.in_ok-put_tag_lines.ensures.added
    c.in_err-put_move_text.ensures.added)
    c.from_residual-in_err-put_move_text.ensures.0

pub returns-clause-added : goal.returns-clause-added
returns-clause-added g c =
    third_put _ _ _ _ c.put_line.result _ _ _ _ _ _ _ _
    (game_is c.args.lines.now.prefix.now c.put_tag_lines.new.lines.prefix.now c.put_move_text.new.lines.prefix.now
    c.args.tags.now c.args.game.now.state c.in_ok-put_tag_lines.ensures.kept.prefix
    (c.in_ok-put_move_text.ensures.kept.prefix ∙ c.in_ok-put_tag_lines.ensures.kept.prefix))
    c.in_ok-put_tag_lines.ensures.added c.in_ok-put_move_text.ensures.added c.put_line.ensures.added
