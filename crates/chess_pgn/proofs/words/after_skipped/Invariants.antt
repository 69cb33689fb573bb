-- The loop's invariant: reading on from `offset` gives the same as from `at`. What decreases is the number of bytes
-- after `offset`.
use Rattle.std.proofs.Common.{◌≤◌, ◌-◌, length}
use Rattle.chess_pgn.specs.ties.GameSteps.{ReadsAlike}
use Rattle.chess_pgn.proofs.words.after_skipped.Given as goal

abbrev pub invariant-loop-comment_end : goal.invariant-loop-comment_end
invariant-loop-comment_end l = record {
  alike : ReadsAlike l.text l.at l.offset;
  forward : l.at ≤ l.offset;
  within : l.offset ≤ length l.text;
}

abbrev pub decreases-loop-comment_end : goal.decreases-loop-comment_end
decreases-loop-comment_end l = length l.text - l.offset
