-- The loop's invariant: the number counted so far, and the number of legal moves of the pieces in `rest`, add up to
-- that of all the pieces. The measure is the number of squares in `rest`.
use Rattle.std.proofs.Common.{◌≡◌, ◌+◌, length, flat_map}
use Rattle.chess_moves.specs.{shared.MovesBySquares.moves_from, Sets.members}
use Rattle.chess_bits.proofs.bits.Bits.count_each.Given as goal

abbrev pub invariant-loop-from : goal.invariant-loop-from
invariant-loop-from l = l.count + length (flat_map (λ a. moves_from l.self a) (members l.rest))
    ≡ length (flat_map (λ a. moves_from l.self a) (members l.fn.men))

abbrev pub decreases-loop-from : goal.decreases-loop-from
decreases-loop-from l = length (members l.rest)
