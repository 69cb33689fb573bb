-- The loop's invariant: the squares in `rest` are of the set; and some square of the set passes the test exactly if one
-- in `rest` does, since none so far does. The measure is the number of squares in `rest`.
use Rattle.std.proofs.Common.{◌≡◌, ℕ, Bool, ◌<◌, true, length}
use Rattle.std.specs.List.{list_any}
use Rattle.chess_moves.specs.Sets.{contains, members}
use Rattle.chess_bits.proofs.squares.any.Given as goal

abbrev pub invariant-loop-square : goal.invariant-loop-square
invariant-loop-square g l = record {
  within : (k : ℕ) → k < 64 → contains l.rest k ≡ true → contains l.fn.set k ≡ true;
  same : (q : ℕ → Bool)
      → ((k : ℕ) → k < 64 → contains l.fn.set k ≡ true → (r : Bool) → goal.F-post g l.test k r → r ≡ q k)
      → list_any q (members l.rest) ≡ list_any q (members l.fn.set);
}

abbrev pub decreases-loop-square : goal.decreases-loop-square
decreases-loop-square g l = length (members l.rest)
