-- The loop's invariant: the first end of a game from `offset` on is the first one from `at` on (Seeks of GameEnds).
-- What decreases is the number of bytes after `offset`.
use Rattle.std.proofs.Common.{length, ◌-◌}
use Rattle.chess_pgn.proofs.GameEnds.{Seeks}
use Rattle.chess_pgn.proofs.game_ends.end_after_tags.Given as goal

abbrev pub invariant-loop-token : goal.invariant-loop-token
invariant-loop-token l = Seeks l.text l.at l.offset

abbrev pub decreases-loop-token : goal.decreases-loop-token
decreases-loop-token l = length l.text - l.offset
