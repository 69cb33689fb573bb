-- The loop's invariant: `text` is what was read so far, and has at most `PIECE_LEN` bytes. What decreases is the number
-- of reads that can still succeed.
use Rattle.std.proofs.Common.{◌≤◌, false, length}
use Rattle.pgn_pieces.specs.{Pieces.HasRead, declared.pieces.TheConstants.PIECE_LEN}
use Rattle.pgn_verifier.proofs.buffered.read_all.Given as goal

abbrev pub invariant-loop-text : goal.invariant-loop-text
invariant-loop-text g l = record {
  front : HasRead false (g.R.Input.seen l.fn.input) (g.R.Input.seen l.input) l.text.items;
  few : length l.text.items ≤ PIECE_LEN;
}

abbrev pub decreases-loop-text : goal.decreases-loop-text
decreases-loop-text g l = (g.R.Input.seen l.input).pieces_left
