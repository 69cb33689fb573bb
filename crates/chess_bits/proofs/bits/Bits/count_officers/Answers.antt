-- The invariant holds at first: what the contract says of each square of the set, that a free piece of the kind is
-- there, holds of each of its members (each_member of Listed).
use Rattle.std.proofs.Common.{◌≡◌, true, refl}
use Rattle.chess_base.specs.Men.{man_at, is_man}
use Rattle.chess_bits.specs.ties.Goes.{IsFree}
use Rattle.chess_bits.proofs.{Counted.none_counted, Listed.each_member}
use Rattle.chess_bits.proofs.bits.Bits.count_officers.Goals as goal

pub loop-from-init : goal.loop-from-init
loop-from-init c = record {
  all = none_counted refl;
  free = each_member c.args.men (λ a. (is_man c.args.self.now.side c.args.kind (man_at c.args.self.now.men a) ≡ true)
      × IsFree c.args.self.now a) c.requires.free;
}
