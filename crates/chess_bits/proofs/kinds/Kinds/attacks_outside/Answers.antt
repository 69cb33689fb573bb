-- The result is whether this colour attacks the square after the move. The sets are those before it: right on a square
-- that doesn't change, while on one that does, this colour has no piece afterwards. So the attackers that the sets
-- give, without the changed squares, are those after the move (left_out of KindSets), and one of them is enough
-- (attacked_is of Attackers).
use Rattle.chess_bits.proofs.{Attackers.attacked_is, KindSets.left_out}
use Rattle.chess_bits.proofs.kinds.Kinds.attacks_outside.Goals as goal

pub returns : goal.returns
returns c =
    λ men later filled army after all.
    rw c.is_empty.ensures.none
    (attacked_is c.without.result later c.args.square c.args.colour
    (left_out c.args.self.now.sets c.args.changed filled c.attackers-attackers.result c.without.result c.args.colour men
    later c.args.square army after (c.attackers-attackers.ensures later all) c.without.ensures))
