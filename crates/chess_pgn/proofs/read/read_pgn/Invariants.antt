-- The loop's invariant: reading on from `offset` gives what reading from `at` gives, and the token there is no move
-- that the game plays (ReadsWords of GameReads). What decreases is the number of bytes after `offset`.
use Rattle.std.proofs.Common.{length, ◌-◌}
use Rattle.chess_pgn.proofs.GameReads.{ReadsWords}
use Rattle.chess_pgn.proofs.read.read_pgn.Given as goal

abbrev pub invariant-loop-token : goal.invariant-loop-token
invariant-loop-token g l = ReadsWords l.fn.game.limit l.text l.at l.game l.progress l.offset

abbrev pub decreases-loop-token : goal.decreases-loop-token
decreases-loop-token g l = length l.text - l.offset
