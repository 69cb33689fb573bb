-- The invariant is kept: a write takes some more bytes of the text (wrote_more of Devices). Where one fails, only a
-- beginning of the text was taken (wrote_part).
use Rattle.std.proofs.{Common.arith, lemmas.Grind.common_steps}
use Rattle.byte_devices.proofs.shared.Devices.{wrote_more, wrote_part, puts_exit}
use Rattle.byte_devices.proofs.traits.put.Goals as goal

pub returns-in_err-at : goal.returns-in_err-at
returns-in_err-at g c =
    puts_exit _ _ c.from_residual.result _
    (wrote_part _ _ _ c.loop-at.at _ c.loop-at.invariant.taken c.in_err-at.ensures) c.from_residual.ensures.0

pub loop-at-preserved : goal.loop-at-preserved
loop-at-preserved g c = record {
  taken = wrote_more _ _ _ c.loop-at.at c.in_ok-at.field-0 _ c.loop-at.invariant.taken c.in_ok-at.ensures.2;
  in_range = grind (arith, common_steps, c.in_ok-at.ensures.0);
}
