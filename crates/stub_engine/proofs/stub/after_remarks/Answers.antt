-- What is left after the remarks from the index `at` on stays the same while `at` passes a remark (Remarks.after_more);
-- where another argument is, or none, it is the arguments from `at` on (Remarks.after_other, after_end).
use Rattle.std.proofs.Common.{◌∙◌, sym, arith, false, true}
use Rattle.stub_engine.proofs.Remarks.{after_more, after_other, after_end, is_said}
use Rattle.stub_engine.proofs.stub.after_remarks.Goals as goal

pub returns-then-is_none-clause-rest : goal.returns-then-is_none-clause-rest
returns-then-is_none-clause-rest c =
    sym (after_other c.args.arguments.now c.loop-at.at _ c.loop-at-test.true
    (is_said c.remark.result _ false c.remark.ensures c.if-is_none.ensures))
    ∙ c.loop-at.invariant.left

pub loop-at-preserved : goal.loop-at-preserved
loop-at-preserved c = record {
  within = (let lt = c.loop-at-test.true in omega (arith, lt));
  left = sym (after_more c.args.arguments.now c.loop-at.at _ c.loop-at-test.true
      (is_said c.remark.result _ true c.remark.ensures c.if-is_none.ensures))
      ∙ c.loop-at.invariant.left;
}

pub returns-clause-rest : goal.returns-clause-rest
returns-clause-rest c =
    sym (after_end c.args.arguments.now c.loop-at.at (let past = c.loop-at-test.false in omega (arith, past)))
    ∙ c.loop-at.invariant.left
