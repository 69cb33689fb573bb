-- The clock shows the moments of the host, so that it was opened is a step that may come (MemorySteps.step_passes).
use Rattle.std.proofs.Common.{refl, sym, append-nil}
use Rattle.match_runner.proofs.MemorySteps.{step_passes}
use Rattle.match_runner.proofs.memory_host.MemoryHostHost.open_clock.Goals as goal

pub returns : goal.returns
returns c = record { passes = step_passes _ _ _ refl refl (sym (append-nil _)) refl }
