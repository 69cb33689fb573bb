-- The list has room for each move that is pushed: the moves for all promotions fit by the contract, and this one is
-- among them (room_for_each of Listed).
use Rattle.std.proofs.Common.{lit<}
use Rattle.chess_base.specs.MoveList.{move_of}
use Rattle.chess_bits.proofs.Listed.{room_for_each}
use Rattle.chess_bits.proofs.listing.add_moves_with.Goals as goal

pub push-requires : goal.push-requires
push-requires c = (
  lit< tt,
  room_for_each (move_of c.args.from c.args.to) c.args.promotions.now c.loop-promotion.promotion-index
      c.args.list.now.items c.loop-promotion.list.items 896 c.loop-promotion-test.true c.loop-promotion.invariant c.requires,
)
