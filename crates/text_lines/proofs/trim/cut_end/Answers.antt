-- By the invariant the first `to` bytes, without the spaces and tabs at their end, are the text without them. A space
-- or tab as the last of these bytes can be dropped (Trims.end_step); at any other byte nothing more is cut
-- (Trims.end_stop).
use Rattle.std.proofs.Common.{arith, sym, ◌∙◌}
use Rattle.text_lines.proofs.Trims.{end_step, end_stop, zero_end}
use Rattle.text_lines.proofs.trim.cut_end.Goals as goal
use Rattle.text_lines.proofs.trim.cut_end.Goals.{then-loop-to-test+else-is_blank, else-loop-to-test}

pub loop-to-preserved : goal.loop-to-preserved
loop-to-preserved c = record {
  front = sym (end_step c.args.text.now c.loop-to.to c.loop-to-test.true c.loop-to.invariant.in_range
      (sym c.if-is_blank.ensures)) ∙ c.loop-to.invariant.front;
  in_range = omega arith;
}

pub returns : goal.returns
returns c = elim c.loop-to-test.branch [
  | then-loop-to-test+else-is_blank w ↦
      sym (end_stop c.args.text.now c.loop-to.to w.loop-to-test.true c.loop-to.invariant.in_range
      (sym w.if-is_blank.ensures)) ∙ c.loop-to.invariant.front
  | else-loop-to-test w ↦ zero_end c.args.text.now c.loop-to.to w.loop-to-test.false ∙ c.loop-to.invariant.front
]
