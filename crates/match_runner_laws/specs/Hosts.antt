-- Which steps may pass at a host over memory.
use Rattle.std.specs.Prelude.{List}
use Rattle.match_runner.specs.GamesTable.{HostStep, StepsPass}
use Rattle.match_runner.specs.MemoryHost.{MayCome}
use Rattle.match_runner.specs.declared.memory_host.MemoryHost.{MemoryHost}

-- steps that passed at a host over memory, from `host` to `host'`, are steps that might come at `host`
abbrev pub StepsMightCome : Type 0
StepsMightCome = (host host' : MemoryHost) (steps : List HostStep) → StepsPass (MayCome host) (MayCome host') steps
    → MayCome host steps
