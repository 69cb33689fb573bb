-- The tokens of a move are its number, if one is due, and its SAN, put at the column that the number left. If both were
-- put, the move was (GameTexts.move_put); otherwise a beginning of it was (GameTexts.number_broke, move_broke), and the
-- board takes the move back.
use Rattle.std.proofs.Common.{◌∙◌}
use Rattle.pgn_writer.proofs.{Added.adds_exit, GameTexts.number_broke, GameTexts.move_broke, GameTexts.move_put}
use Rattle.pgn_writer.proofs.write.put_move.Goals as goal

pub returns-in_err-put_number-clause-added : goal.returns-in_err-put_number-clause-added
returns-in_err-put_number-clause-added g c =
    adds_exit _ _ c.from_residual.result _ _ _
    (number_broke _ _ _ c.args.lines.now.prefix.now c.args.lines.now.column c.args.is_first
    (g.B.Board.position c.args.board.now) c.setup.result.now c.args.m c.setup.ensures.value
    c.in_err-put_number.ensures.added)
    c.from_residual.ensures.0

pub returns-in-Ok-clause-added : goal.returns-in-Ok-clause-added
returns-in-Ok-clause-added g c =
    move_put _ _ _ _ _ _ c.args.lines.now.prefix.now _ c.as_slice.result.now c.args.lines.now.column _ c.args.is_first
    (g.B.Board.position c.args.board.now) c.setup.result.now c.args.m c.setup.ensures.value
    c.in_ok-put_number.ensures.kept.prefix c.in_ok-put_number.ensures.column
    (c.as_slice.ensures.value ∙ c.make_san-text.ensures.text) c.in_ok-put_number.ensures.added c.in-Ok.ensures.added

pub returns-in-Err-clause-added : goal.returns-in-Err-clause-added
returns-in-Err-clause-added g c =
    move_broke _ _ _ _ _ c.args.lines.now.prefix.now _ c.as_slice.result.now c.args.lines.now.column _ c.args.is_first
    (g.B.Board.position c.args.board.now) c.setup.result.now c.args.m c.setup.ensures.value
    c.in_ok-put_number.ensures.kept.prefix c.in_ok-put_number.ensures.column
    (c.as_slice.ensures.value ∙ c.make_san-text.ensures.text) c.in_ok-put_number.ensures.added c.in-Err.ensures.added

pub take_back-requires : goal.take_back-requires
take_back-requires g c = (g.B.Board.position c.args.board.now, c.make_san-text.ensures.made)

pub returns-in-Err-clause-same : goal.returns-in-Err-clause-same
returns-in-Err-clause-same g c =
    c.take_back.ensures.back (g.B.Board.position c.args.board.now) c.make_san-text.ensures.made
