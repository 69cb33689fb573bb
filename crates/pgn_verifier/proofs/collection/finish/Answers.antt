-- The counts were written, and then flushed; or the write or the flush failed, and a beginning of them was written.
use Rattle.byte_devices.proofs.shared.Devices.{flush_on, sends_exit}
use Rattle.pgn_verifier.proofs.collection.finish.Goals as goal

pub returns-in_err-write_counts : goal.returns-in_err-write_counts
returns-in_err-write_counts g c = sends_exit _ _ c.from_residual.result _ c.in_err-write_counts.ensures
    c.from_residual.ensures.0

pub returns : goal.returns
returns g c = flush_on _ _ _ c.flush.result _ c.in_ok-write_counts.ensures c.flush.ensures
