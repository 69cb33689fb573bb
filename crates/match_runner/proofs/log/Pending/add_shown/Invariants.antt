-- The loop's invariant: what was logged so far (`done`) and the bytes from the loop's index on, with `?` for those that
-- are no printable ASCII, make the whole text with its `?`.
use Rattle.std.proofs.Common.{◌≡◌, ℕ, List, ◌++◌, drop, map}
use Rattle.byte_devices.specs.Bytes.{shown_byte}
use Rattle.match_runner.specs.ties.Logging.{Adds}
use Rattle.match_runner.proofs.log.Pending.add_shown.Given as goal

abbrev pub invariant-loop-byte : goal.invariant-loop-byte
invariant-loop-byte g l =
    (done : List ℕ) × Adds (g.E.Output.seen l.fn.output) (g.E.Output.seen l.output) l.fn.self l.self done
    × (done ++ map shown_byte (drop l.byte-index l.text) ≡ map shown_byte l.text)
