-- Which steps may come at the table of a host.
use Rattle.std.specs.Prelude.{◌≡◌, ◌⊎◌, ℕ, List, [], ◌∷◌, ◌++◌}
use Rattle.match_runner.specs.GamesTable.{GamesStep, HostFuture, WriteFails, Writes, at_host}

-- which lists may come at a table, if `p` holds of those that may come at its host. Each list is steps and then a mark,
-- which is no step of a match: `Writes` or `WriteFails` of the number `name` of the reference to the host that the
-- table holds. Before a mark `Writes` the host's steps are those of a list of `p`; before `WriteFails` any steps may
-- come. So whatever passes, the table's reference stays the same (`name_kept` of proofs/HostSteps)
abbrev pub MarkedBy : HostFuture → ℕ → List GamesStep → Type 0
MarkedBy p name steps =
    ((before : List GamesStep) × (steps ≡ before ++ Writes (name ∷ []) ∷ []) × p (at_host before))
    ⊎ ((before : List GamesStep) × (steps ≡ before ++ WriteFails (name ∷ []) ∷ []))
