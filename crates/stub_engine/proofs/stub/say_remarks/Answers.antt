-- The lines sent so far, and those of the remarks from the index `at` on, are together what the definition `remarks`
-- has (Remarks.SoFar): one more remark keeps that (Remarks.more), another argument or none ends the loop
-- (Remarks.at_other, at_end), and if a write fails a beginning was sent (Remarks.broken).
use Rattle.std.proofs.Common.{◌≡◌, ◌∙◌, Bor, [], List, ℕ, Option, Some, None, option_map, rules, sym, ap, arith}
use Rattle.stub_engine.proofs.Remarks.{start, more, broken, at_other, at_end}
use Rattle.stub_engine.proofs.stub.say_remarks.Goals as goal

abbrev texts : Option (Bor (List ℕ)) → Option (List ℕ)
texts = option_map (λ t. t.now)

pub loop-at-init : goal.loop-at-init
loop-at-init g c = ([], start c.args.arguments.now c.args.from _)

pub returns-in_default : goal.returns-in_default
returns-in_default g c =
    let none : c.remark.result ≡ None = search rules in
    at_other c.args.arguments.now c.args.from c.loop-at.at _ _ _ _ c.loop-at-test.true
    (sym c.remark.ensures ∙ ap texts none) c.loop-at.invariant.1

pub returns-in_err-put : goal.returns-in_err-put
returns-in_err-put g c =
    let is : c.remark.result ≡ Some c.in-Some.text = search rules in
    broken c.args.arguments.now c.loop-at.at _ c.in-Some.text.now c.loop-at-test.true (sym c.remark.ensures
    ∙ ap texts is)
    c.args.from _ _ _ _ c.from_residual.result
    c.loop-at.invariant.1 c.in_err-put.ensures c.from_residual.ensures.0

pub loop-at-preserved : goal.loop-at-preserved
loop-at-preserved g c =
    let is : c.remark.result ≡ Some c.in-Some.text = search rules in (
      _,
      more c.args.arguments.now c.loop-at.at _ c.in-Some.text.now c.loop-at-test.true (sym c.remark.ensures
          ∙ ap texts is)
          c.args.from _ _ _ _ c.loop-at.invariant.1 c.in_ok-put.ensures,
    )

pub returns : goal.returns
returns g c =
    at_end c.args.arguments.now c.args.from c.loop-at.at _ _ _
    (let past = c.loop-at-test.false in omega (arith, past)) c.loop-at.invariant.1
