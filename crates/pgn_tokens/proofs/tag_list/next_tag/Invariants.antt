-- The loop's invariant: the tags from `offset` on are those from `at` on (Reads of TagsLeft). What decreases is the
-- number of bytes after `offset`.
use Rattle.std.proofs.Common.{length, ◌-◌}
use Rattle.pgn_tokens.proofs.TagsLeft.{Reads}
use Rattle.pgn_tokens.proofs.tag_list.next_tag.Given as goal

abbrev pub invariant-loop-token : goal.invariant-loop-token
invariant-loop-token l = Reads l.text l.at l.offset

abbrev pub decreases-loop-token : goal.decreases-loop-token
decreases-loop-token l = length l.text - l.offset
