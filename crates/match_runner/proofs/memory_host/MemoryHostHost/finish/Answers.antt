-- Finishing a game starts no engine, and leaves the lists of engines and moments as they are, so its step may come
-- (MemorySteps.step_passes).
use Rattle.std.proofs.Common.{◌∙◌, ap, refl, sym, append-nil}
use Rattle.match_runner.proofs.MemorySteps.{step_passes}
use Rattle.match_runner.proofs.memory_host.MemoryHostHost.finish.Goals as goal

pub returns-clause-passes : goal.returns-clause-passes
returns-clause-passes c =
    let s = c.note_sent.ensures in
    step_passes _ _ _ (ap (λ e. e.now) s.engines) (ap (λ m. m.now) s.moments) (s.started ∙ sym (append-nil _)) refl
