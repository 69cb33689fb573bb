-- The tags after the roster are those of the start (`FEN` and `SetUp`) and then the last ones. If the first can't be
-- put, a beginning of all was (GameTexts.start_broke); otherwise putting the last puts all (GameTexts.further_put).
use Rattle.pgn_writer.proofs.{Added.adds_exit, GameTexts.start_broke, GameTexts.further_put}
use Rattle.pgn_writer.proofs.write.put_further.Goals as goal

pub returns-in_err-put_start-clause-added : goal.returns-in_err-put_start-clause-added
returns-in_err-put_start-clause-added g c =
    adds_exit _ _ c.from_residual.result _ _ _
    (start_broke _ _ _ c.args.lines.now.prefix.now c.args.start.now c.args.termination c.in_err-put_start.ensures.added)
    c.from_residual.ensures.0

pub returns-clause-added : goal.returns-clause-added
returns-clause-added g c =
    further_put _ _ _ c.put_last.result _ _ _ c.args.lines.now.prefix.now c.put_start.new.lines.prefix.now
    c.args.start.now c.variant.result c.args.termination c.variant.ensures c.in_ok-put_start.ensures.kept.prefix
    c.in_ok-put_start.ensures.added c.put_last.ensures.added
