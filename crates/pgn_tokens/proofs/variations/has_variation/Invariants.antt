-- The loop's invariant: no token before `offset` is a variation, and no `(` is in the text from `offset` up to `place`
-- (Sought of VariationsSought). What decreases is the number of bytes after `offset`.
use Rattle.std.proofs.Common.{length, ◌-◌}
use Rattle.pgn_tokens.proofs.VariationsSought.{Sought}
use Rattle.pgn_tokens.proofs.variations.has_variation.Given as goal

abbrev pub invariant-loop-place : goal.invariant-loop-place
invariant-loop-place l = Sought l.text l.at l.offset l.place

abbrev pub decreases-loop-place : goal.decreases-loop-place
decreases-loop-place l = length l.text - l.offset
