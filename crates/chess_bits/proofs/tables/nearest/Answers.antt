-- What `first` and `last` require: the set isn't empty, since the board's last square in that direction was added
-- (with_end of Blockers).
use Rattle.std.proofs.Common.{refl}
use Rattle.chess_bits.proofs.Blockers.{with_end}
use Rattle.chess_bits.proofs.tables.nearest.Goals as goal

pub first-requires : goal.first-requires
first-requires c =
    with_end c.args.squares c.union.result c.single.result c.new.result c.new.result c.union.ensures
    c.single.ensures.value refl

pub last-requires : goal.last-requires
last-requires c =
    with_end c.args.squares c.union-else-up.result c.single-else-up.result c.new-else-up.result c.new-else-up.result
    c.union-else-up.ensures c.single-else-up.ensures.value refl
