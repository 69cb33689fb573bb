-- A piece that is too long has a single report, whose lines were written or broke off (TooLong.too_long_written,
-- too_long_broke); they are explained at the piece's first byte (stands_there). Any other piece is verified as a text
-- of its own, for which the contract of `verify_text` is enough.
use Rattle.std.proofs.Common.{true, ◌∙◌, refl, sym, subst}
use Rattle.byte_devices.specs.{Devices.Took, Devices.CutShort, declared.traits.WriteFault.WriteFault}
use Rattle.pgn_pieces.specs.Stream.{current}
use Rattle.pgn_verifier.specs.ties.OnTheWay.{span_written, unread_written}
use Rattle.pgn_verifier.proofs.TooLong.{stands_there, too_long_written, too_long_broke}
use Rattle.std.proofs.lemmas.Result.{err_from_is_err_and}
use Rattle.pgn_verifier.proofs.collection.verify_piece.Goals as goal

pub returns-in_ok-put-in-None-clause-written : goal.returns-in_ok-put-in-None-clause-written
returns-in_ok-put-in-None-clause-written g c input stands =
    let w = g.W.Output.seen c.args.output.now in
    let w' = g.W.Output.seen c.put.new.writer in
    let lines = c.as_slice.ensures.value ∙ c.too_long_lines-lines.ensures input
    (stands_there c.args.options.explain
    (record { offset = c.offset.result; line = c.args.line; goes_on = true }) c.args.line input
    (current c.args.pieces.now) c.offset.ensures.value refl stands) in
    too_long_written c.args.options input c.args.before w w' (current c.args.pieces.now) (sym c.in-None.ensures)
    c.of_piece-label.result.game.number c.offset.result (span_written c.of_piece-label.result.game.span)
    c.of_piece-label.result.names.items (unread_written c.of_piece-label.result.unread) c.beginning.result.now
    (c.of_piece-label.ensures.number ∙ c.next_number.ensures) c.offset.ensures.value c.of_piece-label.ensures.span
    c.of_piece-label.ensures.names c.of_piece-label.ensures.unread c.beginning.ensures WriteFault
    c.with_fault.result c.with_fault.ensures
    (subst (Took w w') lines c.in_ok-put-in-None.ensures)

pub returns-in_err-put-in-None-clause-written : goal.returns-in_err-put-in-None-clause-written
returns-in_err-put-in-None-clause-written g c input stands =
    let w = g.W.Output.seen c.args.output.now in
    let w' = g.W.Output.seen c.put.new.writer in
    let lines = c.as_slice.ensures.value ∙ c.too_long_lines-lines.ensures input
    (stands_there c.args.options.explain
    (record { offset = c.offset.result; line = c.args.line; goes_on = true }) c.args.line input
    (current c.args.pieces.now) c.offset.ensures.value refl stands) in
    let p = err_from_is_err_and c.from_residual.result c.from_residual.ensures.1 in
    rw p.1 (too_long_broke c.args.options input c.args.before w w' (current c.args.pieces.now) (sym c.in-None.ensures)
    c.of_piece-label.result.game.number c.offset.result (span_written c.of_piece-label.result.game.span)
    c.of_piece-label.result.names.items (unread_written c.of_piece-label.result.unread) c.beginning.result.now
    (c.of_piece-label.ensures.number ∙ c.next_number.ensures) c.offset.ensures.value c.of_piece-label.ensures.span
    c.of_piece-label.ensures.names c.of_piece-label.ensures.unread c.beginning.ensures c.in_err-put-in-None.field-0.0
    (subst (CutShort w w') lines c.in_err-put-in-None.ensures))
