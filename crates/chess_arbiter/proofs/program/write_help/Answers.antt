-- If memory ran out, nothing was written. Otherwise the text was sent: all of it, or a beginning if a write failed. The
-- status is 0 only if all was sent.
use Rattle.std.proofs.Common.{inl, inr, refl}
use Rattle.byte_devices.specs.Transfers.{nothing}
use Rattle.byte_devices.proofs.shared.Transfers.{broke, took_all, took_some}
use Rattle.chess_arbiter.proofs.Serving.{failed_status}
use Rattle.chess_arbiter.proofs.program.write_help.Goals as goal

pub returns-in_err-text : goal.returns-in_err-text
returns-in_err-text g c = inr (failed_status c.from_residual.result c.from_residual.ensures.0, inl refl)

pub returns-in_err-send : goal.returns-in_err-send
returns-in_err-send g c =
    let (start, begins, failing) = c.in_err-send.ensures in
    inr (
      failed_status c.from_residual-in_err-send.result c.from_residual-in_err-send.ensures.0,
      inr (_, broke nothing start, took_some _ _ start failing, (start, begins, refl)),
    )

pub returns : goal.returns
returns g c = inl (refl, _, took_all _ _ _ c.in_ok-send.ensures)
