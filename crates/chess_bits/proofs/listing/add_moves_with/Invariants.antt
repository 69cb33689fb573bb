-- The loop's invariant: to the list as it was, a move for each promotion before the current one was appended.
use Rattle.std.proofs.Common.{◌≡◌, ◌++◌, map, take}
use Rattle.chess_base.specs.MoveList.{move_of}
use Rattle.chess_bits.proofs.listing.add_moves_with.Given as goal

abbrev pub invariant-loop-promotion : goal.invariant-loop-promotion
invariant-loop-promotion l = l.list.items ≡ l.initial.list.items ++ map (move_of l.from l.to)
    (take l.promotion-index l.promotions)
