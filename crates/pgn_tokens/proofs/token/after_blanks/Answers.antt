-- At first nothing is skipped (SkippedTokens.none_yet). A byte of white space or a dot is a token of its own that is
-- skipped, so a round skips one token more (blank_more).
use Rattle.std.proofs.Common.{sym, ◌∙◌, arith}
use Rattle.pgn_tokens.proofs.SkippedTokens.{none_yet, blank_more}
use Rattle.pgn_tokens.proofs.token.after_blanks.Goals as goal

pub loop-offset-init : goal.loop-offset-init
loop-offset-init c = record {
  skips = none_yet c.args.text.now c.args.at;
  forward = omega arith;
  within = c.requires;
}

pub loop-offset-preserved : goal.loop-offset-preserved
loop-offset-preserved c =
    let forward = c.loop-offset.invariant.forward in
    record {
      skips = blank_more c.args.text.now c.args.at c.loop-offset.offset c.loop-offset.invariant.skips
          c.loop-offset-test.true (sym c.is_passed.ensures ∙ c.if-is_passed.true);
      forward = omega (arith, forward);
      within = omega arith;
    }
