-- The loop's invariant: the list so far, followed by the legal moves of the pieces in `men`, which are left, is the
-- list of all legal moves. The measure is the number of squares in `men`.
use Rattle.std.proofs.Common.{◌≡◌, ◌++◌, length, flat_map}
use Rattle.chess_base.specs.MoveList.{moves}
use Rattle.chess_moves.specs.{shared.MovesBySquares.moves_from, Sets.members}
use Rattle.chess_bits.proofs.bits.Bits.add_moves.Given as goal

abbrev pub invariant-loop-from : goal.invariant-loop-from
invariant-loop-from l = l.list.items ++ flat_map (λ a. moves_from l.self a) (members l.men) ≡ moves l.self

abbrev pub decreases-loop-from : goal.decreases-loop-from
decreases-loop-from l = length (members l.men)
