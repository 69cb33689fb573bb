-- A comment, and the white space after it, change nothing of what is read (ReadsAlike); so a round keeps the invariant
-- (GameReads.alike_on).
use Rattle.std.proofs.Common.{arith}
use Rattle.chess_pgn.proofs.{GameReads.alike_on, SkippedTokens.skips_alike}
use Rattle.chess_pgn.proofs.words.after_skipped.Goals as goal

pub loop-comment_end-init : goal.loop-comment_end-init
loop-comment_end-init c = record {
  alike = skips_alike c.args.text.now c.args.at c.after_blanks-first.result c.after_blanks-first.ensures.skips;
  forward = c.after_blanks-first.ensures.forward;
  within = c.after_blanks-first.ensures.within;
}

pub loop-comment_end-preserved : goal.loop-comment_end-preserved
loop-comment_end-preserved c =
    let before = c.loop-comment_end.invariant in
    let comment = c.in-Some.ensures in
    let blanks = c.after_blanks-offset.ensures in
    record {
      alike = alike_on c.args.text.now c.args.at c.loop-comment_end.offset c.in-Some.comment_end
          c.after_blanks-offset.result
          before.alike comment.0
          (skips_alike c.args.text.now c.in-Some.comment_end c.after_blanks-offset.result blanks.skips);
      forward = omega (arith, before.forward, comment.1, blanks.forward);
      within = blanks.within;
    }
