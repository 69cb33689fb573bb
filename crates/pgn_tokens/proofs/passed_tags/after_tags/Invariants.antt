-- The loop's invariant: the tags from `offset` on end where those from `at` on end (PassesTags of PassedTags). What
-- decreases is the number of bytes after `offset`.
use Rattle.std.proofs.Common.{length, ◌-◌}
use Rattle.pgn_tokens.proofs.PassedTags.{PassesTags}
use Rattle.pgn_tokens.proofs.passed_tags.after_tags.Given as goal

abbrev pub invariant-loop-token : goal.invariant-loop-token
invariant-loop-token l = PassesTags l.text l.at l.offset

abbrev pub decreases-loop-token : goal.decreases-loop-token
decreases-loop-token l = length l.text - l.offset
