-- The loop's invariant: the squares in `rest` are of the set `men`; and `starts` has just those other squares of `men`
-- from which the move is legal. The measure is the number of squares in `rest`.
use Rattle.std.proofs.Common.{◌≡◌, ◌<◌, ℕ, ◌&&◌, not, true, None, length}
use Rattle.chess_base.specs.{MoveList.move_of, Moves.is_legal}
use Rattle.chess_moves.specs.Sets.{contains, members}
use Rattle.chess_bits.proofs.bits.Bits.safe_starts.Given as goal

abbrev pub invariant-loop-from : goal.invariant-loop-from
invariant-loop-from l = record {
  within : (k : ℕ) → k < 64 → contains l.rest k ≡ true → contains l.fn.men k ≡ true;
  chosen : (k : ℕ) → k < 64 → contains l.starts k
      ≡ (contains l.fn.men k && not (contains l.rest k) && is_legal l.self (move_of k l.to None));
}

abbrev pub decreases-loop-from : goal.decreases-loop-from
decreases-loop-from l = length (members l.rest)
