-- The loop's invariant: the pieces before this one were reported (SoFar of CollectionVerified), and `game` takes at
-- most 20,000 half-moves. What decreases is how far the end of the current piece is from 2 ^ 63 bytes, the most that a
-- collection may have.
use Rattle.std.proofs.Common.{◌≡◌, length, ◌+◌, ◌-◌, ◌^◌}
use Rattle.pgn_verifier.proofs.CollectionVerified.{SoFar}
use Rattle.pgn_verifier.proofs.collection.verify_pieces.Given as goal
use Rattle.chess_game.specs.declared.game.TheConstants.{MOST_MOVES}

abbrev pub invariant-loop-tally : goal.invariant-loop-tally
invariant-loop-tally g l = (l.game.limit ≡ MOST_MOVES)
    × SoFar l.options (g.R.Input.seen l.fn.input) (g.R.Input.seen l.input) (g.W.Output.seen l.fn.output)
    (g.W.Output.seen l.output) l.pieces l.tally l.line

abbrev pub decreases-loop-tally : goal.decreases-loop-tally
decreases-loop-tally g l = 2 ^ 63 - (l.pieces.offset + length l.pieces.part)
