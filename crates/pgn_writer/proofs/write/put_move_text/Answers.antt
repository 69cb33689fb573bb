-- The move text has three parts: the tokens of the moves, the outcome, put at the column that these left, and the end
-- of the line (GameTexts.moves_are). If the first or second can't be put, a beginning of the whole was
-- (GameTexts.first_broke, second_broke); with the third the whole is, or a beginning of it (third_put).
use Rattle.std.proofs.Common.{refl, ◌∙◌, ap}
use Rattle.chess_game.specs.Results.{outcome_text}
use Rattle.pgn_writer.proofs.Added.{adds_exit}
use Rattle.pgn_writer.proofs.GameTexts.{first_broke, second_broke, third_put, moves_are}
use Rattle.pgn_writer.proofs.write.put_move_text.Goals as goal

pub returns-in_err-put_moves-clause-added : goal.returns-in_err-put_moves-clause-added
returns-in_err-put_moves-clause-added g c =
    let lines = c.args.lines.now in
    adds_exit _ _ c.from_residual.result _ _ _
    (first_broke _ _ _ _ _ _ _
    (moves_are lines.prefix.now lines.prefix.now _ lines.column _ _ c.args.game.now c.in_err-put_moves.ensures.playable
    c.requires.column refl refl refl refl) c.in_err-put_moves.ensures.added)
    c.from_residual.ensures.0

pub returns-in_err-put_token-clause-added : goal.returns-in_err-put_token-clause-added
returns-in_err-put_token-clause-added g c =
    let lines = c.args.lines.now in
    let before = c.put_moves.new.lines in
    adds_exit _ _ c.from_residual-in_err-put_token.result _ _ _
    (second_broke _ _ _ _ _ _ _ _ _
    (moves_are lines.prefix.now before.prefix.now c.text.result.now lines.column before.column _ c.args.game.now
    c.in_ok-put_moves.ensures.playable c.requires.column c.in_ok-put_moves.ensures.kept.prefix
    c.in_ok-put_moves.ensures.column
    (c.text.ensures.value ∙ ap outcome_text c.requires.outcome) refl)
    c.in_ok-put_moves.ensures.added c.in_err-put_token.ensures.added)
    c.from_residual-in_err-put_token.ensures.0

pub returns-clause-added : goal.returns-clause-added
returns-clause-added g c =
    let lines = c.args.lines.now in
    let before = c.put_moves.new.lines in
    third_put _ _ _ _ c.end_line.result _ _ _ _ _ _ _ _
    (moves_are lines.prefix.now before.prefix.now c.text.result.now lines.column before.column
    c.put_token.new.self.column c.args.game.now c.in_ok-put_moves.ensures.playable c.requires.column
    c.in_ok-put_moves.ensures.kept.prefix
    c.in_ok-put_moves.ensures.column (c.text.ensures.value ∙ ap outcome_text c.requires.outcome)
    c.in_ok-put_token.ensures.column)
    c.in_ok-put_moves.ensures.added c.in_ok-put_token.ensures.added c.end_line.ensures.added
