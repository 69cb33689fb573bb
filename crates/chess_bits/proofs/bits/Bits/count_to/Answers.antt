-- The invariant holds at first: each legal move of the piece ends on one of the squares, so the moves to these are all
-- of its moves (from_targets of Listed).
use Rattle.std.proofs.Common.{◌≡◌, length, true, ap}
use Rattle.chess_bits.specs.ties.Goes.{goes}
use Rattle.chess_bits.proofs.{Counted.none_counted, Listed.from_targets, Listed.each_member}
use Rattle.chess_bits.proofs.bits.Bits.count_to.Goals as goal

pub loop-to-init : goal.loop-to-init
loop-to-init c = record {
  all = none_counted (ap length
      (from_targets c.args.self.now c.args.from c.args.ends c.requires.all));
  goes = each_member c.args.ends (λ b. goes c.args.self.now c.args.from b ≡ true)
      c.requires.goes;
}
