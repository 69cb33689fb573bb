-- A turn of the loop logs the byte at its index, which keeps the invariant (Logged.adds_more, loop_step).
use Rattle.std.proofs.Common.{ℕ, List, refl}
use Rattle.match_runner.proofs.Logged.{adds_more, loop_step}
use Rattle.match_runner.proofs.log.Pending.add_text.Goals as goal

pub loop-byte-preserved : goal.loop-byte-preserved
loop-byte-preserved g c =
    let i = c.loop-byte.invariant in (
      _,
      adds_more _ _ _ _ _ _ i.0 _ i.1 c.add.ensures.adds,
      loop_step (λ (l : List ℕ). l) c.args.text.now c.loop-byte.byte-index _ i.0 c.loop-byte-test.true
          (λ rest. refl) i.2,
    )
