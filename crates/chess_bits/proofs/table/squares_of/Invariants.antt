-- The loop's invariant: the set has just those squares before `number` that belong to the shape from a.
use Rattle.std.proofs.Common.{◌≡◌, ℕ, ◌&&◌, nat_lt}
use Rattle.chess_moves.specs.Sets.{contains}
use Rattle.chess_bits.specs.ties.Shapes.{in_shape}
use Rattle.chess_bits.proofs.table.squares_of.Given as goal

abbrev pub invariant-loop-number : goal.invariant-loop-number
invariant-loop-number l = (k : ℕ) → contains l.set k ≡ (nat_lt k l.number && in_shape l.shape l.a k)
