-- A turn of the loop logs the byte at its index, or `?` for it, which keeps the invariant (Logged.adds_more,
-- loop_step).
use Rattle.std.proofs.Common.{ℕ, List, [], ◌∷◌, refl, ap, map}
use Rattle.byte_devices.specs.Bytes.{shown_byte}
use Rattle.match_runner.proofs.Logged.{adds_as, adds_more, loop_step}
use Rattle.match_runner.proofs.log.Pending.add_shown.Goals as goal

pub loop-byte-preserved : goal.loop-byte-preserved
loop-byte-preserved g c =
    let i = c.loop-byte.invariant in (
      _,
      adds_more _ _ _ _ _ _ i.0 _ i.1
          (adds_as _ _ _ _ (c.shown_byte.result ∷ []) _ (ap (λ (b : ℕ). b ∷ []) c.shown_byte.ensures) c.add.ensures.adds),
      loop_step (λ (l : List ℕ). map shown_byte l) c.args.text.now c.loop-byte.byte-index _ i.0 c.loop-byte-test.true
          (λ rest. refl) i.2,
    )
