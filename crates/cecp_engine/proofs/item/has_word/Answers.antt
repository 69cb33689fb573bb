-- The loop's invariant holds at first, when no entry of the list has begun (cut_at_once), and each byte keeps it: the
-- byte at `at` either belongs to the entry being read (over_byte), or it ends one that isn't the word (over_mark).
use Rattle.std.proofs.Common.{sym, ◌∙◌, arith}
use Rattle.cecp_engine.proofs.Pieces.{cut_at_once, over_byte, over_mark}
use Rattle.cecp_engine.proofs.item.has_word.Goals.{then-is_comma_or_blank+else-eq, else-is_comma_or_blank}
use Rattle.cecp_engine.proofs.item.has_word.Goals as goal

pub loop-at-init : goal.loop-at-init
loop-at-init c = record {
  pieces = cut_at_once c.args.word.now c.args.text.now;
  in_order = omega arith;
  in_range = omega arith;
}

pub loop-at-preserved : goal.loop-at-preserved
loop-at-preserved c =
    elim c.if-is_comma_or_blank.branch [
      | then-is_comma_or_blank+else-eq w ↦ rw w.from-is (record {
        pieces = c.loop-at.invariant.pieces ∙ over_mark c.args.word.now c.args.text.now c.loop-at.from c.loop-at.at
            c.loop-at-test.true (sym c.is_comma_or_blank.ensures ∙ w.if-is_comma_or_blank.true)
            (sym w.eq.ensures ∙ w.if-eq.false);
        in_order = omega arith;
        in_range = omega (arith, c.loop-at-test.true);
      })
      | else-is_comma_or_blank w ↦ rw w.from-is (record {
        pieces = c.loop-at.invariant.pieces ∙ over_byte c.args.word.now c.args.text.now c.loop-at.from c.loop-at.at
            c.loop-at.invariant.in_order c.loop-at-test.true
            (sym c.is_comma_or_blank.ensures ∙ w.if-is_comma_or_blank.false);
        in_order = omega (arith, c.loop-at.invariant.in_order);
        in_range = omega (arith, c.loop-at-test.true);
      })
    ]
