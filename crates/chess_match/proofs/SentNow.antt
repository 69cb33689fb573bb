-- A call that writes and flushes a text did so if its result is `Ok`; if it is `Err`, a beginning of the text was
-- written. By cases of the result, from `Sends` to `SendsIf`.
use Rattle.std.proofs.Common.{ℕ, List, Result, Ok, Err, is_err}
use Rattle.byte_devices.specs.Devices.{OutputState, Sends}
use Rattle.byte_devices.proofs.shared.Transfers.{took_all}
use Rattle.chess_match.specs.ties.Reported.{SendsIf}

-- a text was written and flushed
pub sent_now : {A E : Type 0} (a b : OutputState) (result : Result A E) (x : List ℕ) → Sends a b result x
    → SendsIf (is_err result) a b x
sent_now a b (Ok v) x h = took_all a b x h
sent_now a b (Err e) x h = h
