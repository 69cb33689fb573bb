-- The loop's invariant: what is left after the remarks from the index `at` on is what is left after those from `from`
-- on, as all arguments between are remarks. The measure: how many arguments there are from `at` on.
use Rattle.std.proofs.Common.{◌≡◌, ◌≤◌, ◌-◌, drop, length}
use Rattle.stub_engine.specs.Stub.{after_remarks}
use Rattle.stub_engine.proofs.stub.after_remarks.Given as goal

abbrev pub invariant-loop-at : goal.invariant-loop-at
invariant-loop-at l = record {
  within : l.at ≤ length l.arguments;
  left : after_remarks (drop l.at l.arguments) ≡ after_remarks (drop l.from l.arguments);
}

abbrev pub decreases-loop-at : goal.decreases-loop-at
decreases-loop-at l = length l.arguments - l.at
