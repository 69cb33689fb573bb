-- Where no step passes at the host, just the same steps may come there as before: the case of all commands but `match`.
use Rattle.std.proofs.Common.{List, []}
use Rattle.match_runner.specs.GamesTable.{HostStep, StepsPass}

pub steps_none : (p : List HostStep → Type 0) → StepsPass p p []
steps_none p = record { extends = λ after h. h }
