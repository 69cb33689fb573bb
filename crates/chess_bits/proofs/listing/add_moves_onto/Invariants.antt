-- The loop's invariant: the list so far, followed by a move to each square in `rest`, is the list as it was, followed
-- by a move to each square of the whole set. The measure is the number of squares in `rest`.
use Rattle.std.proofs.Common.{◌≡◌, ◌++◌, None, length, map}
use Rattle.chess_base.specs.MoveList.{move_of}
use Rattle.chess_moves.specs.Sets.{members}
use Rattle.chess_bits.proofs.listing.add_moves_onto.Given as goal

abbrev pub invariant-loop-to : goal.invariant-loop-to
invariant-loop-to l = l.list.items ++ map (λ b. move_of l.from b None) (members l.rest) ≡ l.initial.list.items
    ++ map (λ b. move_of l.from b None) (members l.fn.ends)

abbrev pub decreases-loop-to : goal.decreases-loop-to
decreases-loop-to l = length (members l.rest)
