-- The loop's invariant: the last tag of this name from `offset` on, or else `last`, is the last one from `at` on (Reads
-- of LastTagReads). What decreases is the number of bytes after `offset`.
use Rattle.std.proofs.Common.{length, ◌-◌}
use Rattle.pgn_tokens.proofs.LastTagReads.{Reads}
use Rattle.pgn_tokens.proofs.last_tags.last_tag.Given as goal

abbrev pub invariant-loop-token : goal.invariant-loop-token
invariant-loop-token l = Reads l.text l.name l.at l.last l.offset

abbrev pub decreases-loop-token : goal.decreases-loop-token
decreases-loop-token l = length l.text - l.offset
