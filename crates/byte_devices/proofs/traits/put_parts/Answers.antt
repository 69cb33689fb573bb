-- The invariant is kept by one text more (parts_more of Devices). Where one breaks off, only a beginning of all texts
-- together was taken (parts_break).
use Rattle.std.proofs.Common.{List, ℕ, Bor}
use Rattle.byte_devices.proofs.shared.Devices.{parts_more, parts_break, puts_exit}
use Rattle.byte_devices.proofs.traits.put_parts.Goals as goal

pub returns-in_err-put : goal.returns-in_err-put
returns-in_err-put g c =
    puts_exit _ _ c.from_residual.result _
    (parts_break _ _ _ (λ (part : Bor (List ℕ)). part.now) c.args.parts.now c.loop-part.part-index _
    c.loop-part-test.true c.loop-part.invariant c.in_err-put.ensures)
    c.from_residual.ensures.0

pub loop-part-preserved : goal.loop-part-preserved
loop-part-preserved g c =
    parts_more _ _ _ (λ (part : Bor (List ℕ)). part.now) c.args.parts.now c.loop-part.part-index _ c.loop-part-test.true
    c.loop-part.invariant c.in_ok-put.ensures
