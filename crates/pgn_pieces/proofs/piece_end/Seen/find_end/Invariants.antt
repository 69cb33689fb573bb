-- The loop's invariant: the bytes before `offset` belong to the piece, and the state (`self`) is what is known of its
-- lines after them. What decreases is the number of bytes from `offset` on.
use Rattle.std.proofs.Common.{◌≤◌, ◌-◌, List, ℕ, ◌++◌, length, take}
use Rattle.pgn_pieces.specs.ties.Held.{HasSeen}
use Rattle.pgn_pieces.proofs.piece_end.Seen.find_end.Given as goal

abbrev pub invariant-loop-offset : goal.invariant-loop-offset
invariant-loop-offset l = record {
  within : l.offset ≤ length l.text;
  seen : (piece : List ℕ) → HasSeen l.fn.self piece → HasSeen l.self (piece ++ take l.offset l.text);
}

abbrev pub decreases-loop-offset : goal.decreases-loop-offset
decreases-loop-offset l = length l.text - l.offset
