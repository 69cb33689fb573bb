-- The loop's invariant: `at` is at a position of the bucket or 0, and no later position is the same as `now` (`IsAlong`
-- of Walk). Its measure is `at`: each link is smaller (walk_smaller).
use Rattle.chess_game.proofs.Walk.{IsAlong}
use Rattle.chess_game.proofs.index.count_same.Given as goal

abbrev pub invariant-loop-at : goal.invariant-loop-at
invariant-loop-at l = IsAlong l.start l.played_moves l.now l.at

abbrev pub decreases-loop-at : goal.decreases-loop-at
decreases-loop-at l = l.at
