-- The loop's invariant: the squares in `rest` are of the set and not chosen yet; each other square of the set is chosen
-- or not as the test answered for it; and no square outside the set is chosen. The measure is the number of squares in
-- `rest`.
use Rattle.std.proofs.Common.{◌≡◌, ℕ, ◌<◌, true, false, length}
use Rattle.chess_moves.specs.Sets.{contains, members}
use Rattle.chess_bits.proofs.squares.filter.Given as goal

abbrev pub invariant-loop-square : goal.invariant-loop-square
invariant-loop-square g l = record {
  within : (k : ℕ) → k < 64 → contains l.rest k ≡ true → contains l.fn.set k ≡ true;
  left : (k : ℕ) → k < 64 → contains l.rest k ≡ true → contains l.chosen k ≡ false;
  inside : (k : ℕ) → k < 64 → contains l.fn.set k ≡ true → contains l.rest k ≡ false
      → goal.F-post g l.test k (contains l.chosen k);
  outside : (k : ℕ) → k < 64 → contains l.fn.set k ≡ false → contains l.chosen k ≡ false;
}

abbrev pub decreases-loop-square : goal.decreases-loop-square
decreases-loop-square g l = length (members l.rest)
