-- The loop's invariant: the gap that is left to skip ends where the whole gap ends; `line_begins` says whether a line
-- begins at the rest. What decreases is the number of bytes left.
use Rattle.std.proofs.Common.{◌≡◌, length, false}
use Rattle.pgn_tokens.specs.{Tokens.after_gap, shared.Gaps.gap_left}
use Rattle.pgn_tokens.proofs.skips.after_gap.Given as goal

abbrev pub invariant-loop-rest : goal.invariant-loop-rest
invariant-loop-rest l = gap_left false l.line_begins l.rest ≡ after_gap l.text

abbrev pub decreases-loop-rest : goal.decreases-loop-rest
decreases-loop-rest l = length l.rest
