-- The loop's invariant: the games before `at` were reported (SoFar of TextVerified); `place`, from which lines and
-- columns are counted on, has the right ones (Known); and `game` takes at most 20,000 half-moves. What decreases is the
-- number of bytes after `at`.
use Rattle.std.proofs.Common.{◌≡◌, List, length, ◌-◌}
use Rattle.pgn_verifier.specs.{Reports.Placed, ties.Counting.Known}
use Rattle.pgn_verifier.proofs.TextVerified.{SoFar}
use Rattle.pgn_verifier.proofs.games.verify_text.Given as goal
use Rattle.chess_game.specs.declared.game.TheConstants.{MOST_MOVES}

abbrev pub invariant-loop-judged : goal.invariant-loop-judged
invariant-loop-judged g l = (l.game.limit ≡ MOST_MOVES)
    × ((done : List Placed) × SoFar l.options l.start l.text l.fn.before (g.W.Output.seen l.fn.output)
    (g.W.Output.seen l.output) l.at l.tally done) × (l.place.start ≡ l.start)
    × Known l.options.explain l.text l.place

abbrev pub decreases-loop-judged : goal.decreases-loop-judged
decreases-loop-judged g l = length l.text - l.at
