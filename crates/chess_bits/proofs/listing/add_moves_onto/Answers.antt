-- The list has room for each move that is pushed: the moves to all squares fit by the contract, and this one is among
-- those that are left (room_onto of Listed).
use Rattle.std.proofs.Common.{◌++◌, ◌≤◌, None, length, map, lit<, length-append, arith}
use Rattle.std.proofs.lemmas.List.{length-map}
use Rattle.chess_base.specs.MoveList.{move_of}
use Rattle.chess_moves.specs.Sets.{members}
use Rattle.chess_bits.proofs.Listed.{room_onto}
use Rattle.chess_bits.proofs.listing.add_moves_onto.Goals as goal

pub push-requires : goal.push-requires
push-requires c =
    let each = map (λ b. move_of c.args.from b None) (members c.args.ends) in
    let long : length (c.args.list.now.items ++ each) ≤ 896 =
    (let all = length-append c.args.list.now.items each in
    let ends = length-map (members c.args.ends) (λ b. move_of c.args.from b None) in
    omega (arith, all, ends, c.requires)) in (
      lit< tt,
      room_onto (λ b. move_of c.args.from b None) c.loop-to.list.items _ _ c.in-Some.to _ 896 c.in-Some.ensures
          c.loop-to.invariant long,
    )
