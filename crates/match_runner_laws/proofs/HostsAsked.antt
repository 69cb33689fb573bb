-- Steps that passed at a host over memory are steps that might come there: `MayCome` holds of the empty list at the
-- host that they left, so of the steps at the one before them.
use Rattle.std.proofs.Common.{◌≡◌, List, [], ◌∷◌, ◌++◌, append-nil, subst}
use Rattle.match_runner.specs.{GamesTable.HostStep, MemoryHost.MayCome}
use Rattle.match_runner_laws.specs.Hosts.{StepsMightCome}

-- no list is empty that has an element after others
not_empty : (before : List HostStep) (x : HostStep) (after : List HostStep) → before ++ x ∷ after ≡ [] → ⊥
not_empty [] x after e = cc
not_empty (y ∷ before) x after e = cc

pub steps_might_come : StepsMightCome
steps_might_come host host' steps h = subst (MayCome host) (append-nil steps)
    (h.extends [] (record { each = λ before x after cut. absurd (not_empty before x after cut) }))
