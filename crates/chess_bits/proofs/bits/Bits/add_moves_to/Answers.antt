-- The invariant holds at first: each legal move of the piece ends on one of the squares, so the moves to these are all
-- of its moves (from_targets of Listed). Each call has room, since all of them fit by the contract (room_for).
use Rattle.std.proofs.Common.{◌≡◌, ◌++◌, ◌≤◌, length, true, ap, length-append, arith}
use Rattle.chess_moves.specs.shared.MovesBySquares.{moves_between, moves_from}
use Rattle.chess_bits.specs.ties.Goes.{goes}
use Rattle.chess_bits.proofs.Listed.{from_targets, each_member, room_for}
use Rattle.chess_bits.proofs.bits.Bits.add_moves_to.Goals as goal

pub loop-to-init : goal.loop-to-init
loop-to-init c = record {
  moves = ap (λ ms. c.args.list.now.items ++ ms)
      (from_targets c.args.self.now c.args.from c.args.ends c.requires.all);
  goes = each_member c.args.ends (λ b. goes c.args.self.now c.args.from b ≡ true)
      c.requires.goes;
}

pub add_moves_between-requires-clause-room : goal.add_moves_between-requires-clause-room
add_moves_between-requires-clause-room c =
    let long : length (c.args.list.now.items ++ moves_from c.args.self.now c.args.from) ≤ 896 =
    (let e = length-append c.args.list.now.items (moves_from c.args.self.now c.args.from) in omega arith) in
    room_for (λ b. moves_between c.args.self.now c.args.from b) c.loop-to.list.items _ _ c.in-Some.to _ 896
    c.in-Some.ensures c.loop-to.invariant.moves long
