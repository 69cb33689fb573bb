-- The loop's invariant: reading on from `offset`, with what was read so far, gives the same as reading from `at`, and
-- in the same variant (ReadsNormal of GameReads). What decreases is the number of bytes after `offset`.
use Rattle.std.proofs.Common.{length, ◌-◌}
use Rattle.chess_pgn.proofs.GameReads.{ReadsNormal}
use Rattle.chess_pgn.proofs.read.read_normal_tags.Given as goal

abbrev pub invariant-loop-next : goal.invariant-loop-next
invariant-loop-next g l = ReadsNormal l.fn.game.limit l.text l.at l.game l.progress l.offset

abbrev pub decreases-loop-next : goal.decreases-loop-next
decreases-loop-next g l = length l.text - l.offset
