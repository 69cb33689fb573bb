-- The loop's invariant: what was logged so far (`done`) and the log of the lines in `rest` make the log of the whole
-- text; side and moment of the log stay. The measure is the length of `rest`.
use Rattle.std.proofs.Common.{◌≡◌, ℕ, List, ◌++◌, length}
use Rattle.chess_match.specs.Notes.{Gives}
use Rattle.match_runner.specs.Log.{Logged, engine_name, log_seen, note_text}
use Rattle.match_runner.proofs.log.Log.note_given.Given as goal

abbrev pub invariant-loop-rest : goal.invariant-loop-rest
invariant-loop-rest g l =
    (done : List ℕ)
    × Logged (log_seen (g.E.Output.seen l.fn.self.output) l.fn.self.broken)
    (log_seen (g.E.Output.seen l.self.output) l.self.broken) done
    × (done ++ note_text (engine_name l.fn.self.first) l.fn.self.moment (Gives l.side l.rest)
    ≡ note_text (engine_name l.fn.self.first) l.fn.self.moment (Gives l.side l.text))
    × (l.self.first ≡ l.fn.self.first) × (l.self.moment ≡ l.fn.self.moment)

abbrev pub decreases-loop-rest : goal.decreases-loop-rest
decreases-loop-rest g l = length l.rest
