-- The loop's invariant: for each square before `number`, the entry is the set of the squares that belong to the shape
-- from there.
use Rattle.std.proofs.Common.{◌≡◌, ℕ, ◌<◌, get_or}
use Rattle.chess_moves.specs.Sets.{contains}
use Rattle.chess_bits.specs.ties.Shapes.{in_shape}
use Rattle.chess_bits.proofs.table.Table.new.Given as goal

abbrev pub invariant-loop-number : goal.invariant-loop-number
invariant-loop-number l = (a k : ℕ) → a < l.number → k < 64 → contains (get_or l.sets a 0) k ≡ in_shape l.shape a k
