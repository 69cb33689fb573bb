-- A run of a server of lines (a session or a stub) by the program: it ran from the state that it was opened in
-- (server_ran), and its exit status is 1 if it failed (failed_status).
use Rattle.std.proofs.Common.{◌≡◌, ℕ, Result, Ok, Err, IsErr, refl, subst}
use Rattle.byte_devices.specs.Transfers.{Devices, Ran}
use Rattle.chess_cecp.specs.{declared.run.End.End, declared.run.Fault.Fault, Served.Served, Serving.Server}
use Rattle.chess_arbiter.specs.Program.{Serves, status_of}

pub failed_status : {A E : Type 0} (result : Result A E) → IsErr result → status_of result ≡ 1
failed_status (Ok a) failed = absurd (cc)
failed_status (Err fault) failed = refl

-- a server that is in the state `start`, ran, and gave the result whose status is returned: that is what `Serves` says
pub server_ran : {S : Type 0} (respond : Server S) (start : S) (d d' : Devices) (s s' : S) (result : Result End Fault)
    (status : ℕ)
    → s ≡ start → Ran (Served respond s s' result) d d' → status ≡ status_of result → Serves respond start d d' status
server_ran respond start d d' s s' result status is ran same =
    (result, s', subst (λ v. Ran (Served respond v s' result) d d') is ran, same)
