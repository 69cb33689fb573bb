-- If the parts so far and then one more were added, those with it were (Added.parts_more). If the writer fails at a
-- part, it took a beginning of all parts (Added.parts_break).
use Rattle.std.proofs.Common.{List, ℕ, Bor}
use Rattle.pgn_writer.proofs.Added.{adds_exit, parts_break, parts_more}
use Rattle.pgn_writer.proofs.buffer.TextBuffer.add_parts.Goals as goal

pub returns-in_err-add : goal.returns-in_err-add
returns-in_err-add g c =
    adds_exit _ _ c.from_residual.result _ _ _
    (parts_break _ _ _ _ _ (λ (part : Bor (List ℕ)). part.now) c.args.parts.now c.loop-part.part-index _
    c.loop-part-test.true c.loop-part.invariant c.in_err-add.ensures)
    c.from_residual.ensures.0

pub loop-part-preserved : goal.loop-part-preserved
loop-part-preserved g c =
    parts_more _ _ _ _ _ _ (λ (part : Bor (List ℕ)). part.now) c.args.parts.now c.loop-part.part-index _
    c.loop-part-test.true c.loop-part.invariant c.in_ok-add.ensures
