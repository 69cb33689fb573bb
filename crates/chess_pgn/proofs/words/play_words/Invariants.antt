-- The loop's invariant: reading on from `offset`, after the moves played so far, gives the same as from `at`. What
-- decreases is the number of bytes after `offset`.
use Rattle.std.proofs.Common.{length, ◌-◌}
use Rattle.chess_pgn.specs.ties.GameSteps.{GoesOn}
use Rattle.chess_pgn.proofs.words.play_words.Given as goal

abbrev pub invariant-loop-tail : goal.invariant-loop-tail
invariant-loop-tail g l = GoesOn l.text l.at l.fn.game l.fn.progress l.offset l.game l.progress

abbrev pub decreases-loop-tail : goal.decreases-loop-tail
decreases-loop-tail g l = length l.text - l.offset
