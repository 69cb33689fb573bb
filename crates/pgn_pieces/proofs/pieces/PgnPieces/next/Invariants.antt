-- The loop's invariant: all that was looked through belongs to the piece (Looked of Steps). What decreases is the
-- number of reads that can still succeed.
use Rattle.pgn_pieces.proofs.Steps.{Looked}
use Rattle.pgn_pieces.proofs.pieces.PgnPieces.next.Given as goal

abbrev pub invariant-loop-seen : goal.invariant-loop-seen
invariant-loop-seen g l = record {
  looked : Looked l.fn.self l.self l.seen (g.R.Input.seen l.fn.input) (g.R.Input.seen l.input);
}

abbrev pub decreases-loop-seen : goal.decreases-loop-seen
decreases-loop-seen g l = (g.R.Input.seen l.input).pieces_left
