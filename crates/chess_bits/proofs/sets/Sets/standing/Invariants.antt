-- The loop's invariant: the sets are those of the board without the pieces on the squares in `rest`. The measure is the
-- number of squares in `rest`.
use Rattle.std.proofs.Common.{◌≡◌, length}
use Rattle.chess_base.specs.Men.{Men}
use Rattle.chess_bits.specs.ties.BoardSets.{IsSets}
use Rattle.chess_bits.proofs.Standing.{IsWithout}
use Rattle.chess_moves.specs.Sets.{members}
use Rattle.chess_bits.proofs.sets.Sets.standing.Given as goal

abbrev pub invariant-loop-square : goal.invariant-loop-square
invariant-loop-square l = (part : Men) → length part ≡ 64 → IsWithout l.rest l.men part → IsSets l.sets part

abbrev pub decreases-loop-square : goal.decreases-loop-square
decreases-loop-square l = length (members l.rest)
