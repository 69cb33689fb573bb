-- The lines written are those of the definition, numbered from 1 (Finished.whole_lines), the verdict is by their counts
-- (whole_counted), and then they are flushed. If a write fails, a beginning of them was written; if the flush fails,
-- they may be cut short (Finished.not_flushed).
use Rattle.std.proofs.{Common.subst, lemmas.Result.err_from_is_err_and}
use Rattle.byte_devices.specs.Devices.{Took, CutShort}
use Rattle.byte_devices.proofs.shared.Devices.{sent_on}
use Rattle.pgn_verifier.specs.ties.OnTheWay.{text_lines}
use Rattle.pgn_verifier.proofs.Finished.{whole_there, whole_lines, whole_counted, not_flushed}
use Rattle.pgn_verifier.proofs.buffered.finish.Goals as goal

pub returns-in_err-tally : goal.returns-in_err-tally
returns-in_err-tally g c =
    let p = err_from_is_err_and c.from_residual.result c.from_residual.ensures.1 in
    rw p.1 (subst (CutShort (g.W.Output.seen c.args.output.now) (g.W.Output.seen c.verify_text.new.output))
    (whole_lines c.args.options c.none.result c.args.text.now c.none.ensures)
    (c.in_err-tally.ensures.written c.args.text.now (whole_there c.args.options.explain c.args.text.now)))

pub returns : goal.returns
returns g c =
    let took = subst (Took (g.W.Output.seen c.args.output.now) (g.W.Output.seen c.verify_text.new.output))
    (whole_lines c.args.options c.none.result c.args.text.now c.none.ensures)
    (c.in_ok-tally.ensures.written c.args.text.now (whole_there c.args.options.explain c.args.text.now)).0 in (
      whole_counted c.args.options.strict c.none.result c.in_ok-tally.tally c.args.text.now c.verified.result c.none.ensures
          (c.in_ok-tally.ensures.written c.args.text.now (whole_there c.args.options.explain c.args.text.now)).1
          c.verified.ensures,
      sent_on (g.W.Output.seen c.args.output.now) (g.W.Output.seen c.verify_text.new.output)
          (g.W.Output.seen c.flush.new.self) (text_lines c.args.options c.args.text.now) took
          c.in_ok-flush.ensures,
    )

pub returns-in_err-flush : goal.returns-in_err-flush
returns-in_err-flush g c =
    let took = subst (Took (g.W.Output.seen c.args.output.now) (g.W.Output.seen c.verify_text.new.output))
    (whole_lines c.args.options c.none.result c.args.text.now c.none.ensures)
    (c.in_ok-tally.ensures.written c.args.text.now (whole_there c.args.options.explain c.args.text.now)).0 in
    let p = err_from_is_err_and c.from_residual-in_err-flush.result c.from_residual-in_err-flush.ensures.1 in
    rw p.1 (not_flushed (g.W.Output.seen c.args.output.now) (g.W.Output.seen c.verify_text.new.output)
    (g.W.Output.seen c.flush.new.self) (text_lines c.args.options c.args.text.now) took
    c.in_err-flush.ensures)
