-- The loop's invariant: the lines of the remarks before the index `at` were sent (SoFar of Remarks). The measure: how
-- many arguments there are from `at` on.
use Rattle.std.proofs.Common.{List, ℕ, length, ◌-◌}
use Rattle.stub_engine.proofs.Remarks.{SoFar}
use Rattle.stub_engine.proofs.stub.say_remarks.Given as goal

abbrev pub invariant-loop-at : goal.invariant-loop-at
invariant-loop-at g l = let seen = g.W.Output.seen in (text : List ℕ)
    × SoFar l.arguments l.from l.at (seen l.fn.writer) (seen l.writer) text

abbrev pub decreases-loop-at : goal.decreases-loop-at
decreases-loop-at g l = length l.arguments - l.at
