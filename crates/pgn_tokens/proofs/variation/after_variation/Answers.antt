-- A round skips a part of the variation (a comment, a skipped line or a byte), as the definition does (part_is of
-- VariationParts), and opens at most one variation more, so `depth` doesn't overflow (depth_few). If a comment has no
-- end, that is the fault (part_unclosed).
use Rattle.std.proofs.Common.{sym, ◌∙◌, get_or, Some, arith}
use Rattle.pgn_tokens.proofs.VariationParts.{part_unclosed, part_is, depth_few}
use Rattle.pgn_tokens.proofs.variation.after_variation.Goals as goal

pub returns-in_default-after_part : goal.returns-in_default-after_part
returns-in_default-after_part c =
    let l = c.loop-rest in
    sym (part_unclosed l.line_begins l.depth l.rest.now c.in-len1-up.len_at_least
    c.in_default-after_part.ensures.rest) ∙ l.invariant.left

pub loop-rest-preserved : goal.loop-rest-preserved
loop-rest-preserved c =
    let l = c.loop-rest in
    let inner = c.in-Some-depth_after.open in
    record {
      left = sym (part_is l.line_begins l.depth l.rest.now c.in-Some.tail.now (Some inner)
          c.in-len1-up.len_at_least c.in-Some.ensures.rest c.in-Some-depth_after.ensures) ∙ l.invariant.left;
      few = omega (
        arith,
        c.in-Some.ensures.shorter,
        depth_few l.depth (get_or l.rest.now 0 0) inner
            c.in-Some-depth_after.ensures,
        l.invariant.few,
      );
    }
