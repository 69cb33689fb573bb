-- The loop's invariant: with `depth` variations open inside it, the variation ends in `rest` where it ends in the text;
-- and `depth` is at most the number of bytes skipped so far. What decreases is the number of bytes left.
use Rattle.std.proofs.Common.{◌≡◌, ◌+◌, ◌≤◌, suc, false, None, length}
use Rattle.pgn_tokens.specs.Tokens.{variation_at}
use Rattle.pgn_tokens.proofs.variation.after_variation.Given as goal

abbrev pub invariant-loop-rest : goal.invariant-loop-rest
invariant-loop-rest l = record {
  left : variation_at None l.line_begins (suc l.depth) l.rest ≡ variation_at None false 1 l.text;
  few : l.depth + length l.rest ≤ length l.text;
}

abbrev pub decreases-loop-rest : goal.decreases-loop-rest
decreases-loop-rest l = length l.rest
