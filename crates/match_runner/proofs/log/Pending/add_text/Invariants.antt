-- The loop's invariant: what was logged so far (`done`) and the bytes from the loop's index on make the whole text.
use Rattle.std.proofs.Common.{◌≡◌, ℕ, List, ◌++◌, drop}
use Rattle.match_runner.specs.ties.Logging.{Adds}
use Rattle.match_runner.proofs.log.Pending.add_text.Given as goal

abbrev pub invariant-loop-byte : goal.invariant-loop-byte
invariant-loop-byte g l =
    (done : List ℕ) × Adds (g.E.Output.seen l.fn.output) (g.E.Output.seen l.output) l.fn.self l.self done
    × (done ++ drop l.byte-index l.text ≡ l.text)
