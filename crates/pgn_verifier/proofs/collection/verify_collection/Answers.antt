-- If memory runs out before the first piece, nothing was read and nothing written (Finished.not_begun). If verifying
-- the pieces fails, that is the result. After the lines of all pieces the counts were written, and all was flushed
-- (Finished.finished); or that failed (Finished.not_finished).
use Rattle.std.proofs.lemmas.Result.{err_from_is_err_and}
use Rattle.pgn_verifier.proofs.Finished.{finished, not_begun, not_finished}
use Rattle.pgn_verifier.proofs.collection.verify_collection.Goals as goal

pub returns-in_err-tables : goal.returns-in_err-tables
returns-in_err-tables g c =
    let p = err_from_is_err_and c.from_residual.result c.from_residual.ensures.1 in
    rw (p.1, p.2) (not_begun c.args.options (g.R.Input.seen c.args.input.now) (g.W.Output.seen c.args.output.now))

pub returns-in_err-game : goal.returns-in_err-game
returns-in_err-game g c =
    let p = err_from_is_err_and c.from_residual-in_err-game.result c.from_residual-in_err-game.ensures.1 in
    rw (p.1, p.2) (not_begun c.args.options (g.R.Input.seen c.args.input.now) (g.W.Output.seen c.args.output.now))

pub returns-in_err-pieces : goal.returns-in_err-pieces
returns-in_err-pieces g c =
    let p = err_from_is_err_and c.from_residual-in_err-pieces.result c.from_residual-in_err-pieces.ensures.1 in
    rw (p.1, p.2) (not_begun c.args.options (g.R.Input.seen c.args.input.now) (g.W.Output.seen c.args.output.now))

pub returns : goal.returns
returns g c =
    finished c.args.options (g.R.Input.seen c.args.input.now) (g.R.Input.seen c.verify_pieces.new.input)
    (g.W.Output.seen c.args.output.now) (g.W.Output.seen c.verify_pieces.new.output)
    (g.W.Output.seen c.finish.new.output) c.in_ok-tally.tally c.verified.result c.in_ok-tally.ensures
    c.in_ok-finish.ensures c.verified.ensures

pub returns-in_err-finish : goal.returns-in_err-finish
returns-in_err-finish g c =
    let p = err_from_is_err_and c.from_residual-in_err-finish.result c.from_residual-in_err-finish.ensures.1 in
    rw (p.1, p.2) (not_finished c.args.options (g.R.Input.seen c.args.input.now)
    (g.R.Input.seen c.verify_pieces.new.input) (g.W.Output.seen c.args.output.now)
    (g.W.Output.seen c.verify_pieces.new.output) (g.W.Output.seen c.finish.new.output) c.in_ok-tally.tally
    c.in_ok-tally.ensures c.in_err-finish.ensures)

pub returns-in_err-tally : goal.returns-in_err-tally
returns-in_err-tally g c =
    let p = err_from_is_err_and c.from_residual-in_err-tally.result c.from_residual-in_err-tally.ensures.1 in
    rw (p.1, p.2) c.in_err-tally.ensures
