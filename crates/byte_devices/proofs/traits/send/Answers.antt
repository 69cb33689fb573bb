-- All of the text was put and then flushed (flush_on of Devices); or putting it failed, and a beginning was put
-- (sends_exit).
use Rattle.byte_devices.proofs.shared.Devices.{flush_on, sends_exit}
use Rattle.byte_devices.proofs.traits.send.Goals as goal

pub returns-in_err-put : goal.returns-in_err-put
returns-in_err-put g c = sends_exit _ _ c.from_residual.result _ c.in_err-put.ensures c.from_residual.ensures.0

pub returns : goal.returns
returns g c = flush_on _ _ _ c.flush.result _ c.in_ok-put.ensures c.flush.ensures
