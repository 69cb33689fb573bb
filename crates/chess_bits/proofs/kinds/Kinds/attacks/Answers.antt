-- The square is attacked exactly if the set of its attackers, which is right for this board, is not empty (attacked_is
-- of Attackers).
use Rattle.chess_bits.proofs.Attackers.{attacked_is}
use Rattle.chess_bits.proofs.kinds.Kinds.attacks.Goals as goal

pub returns : goal.returns
returns c =
    λ men army all.
    rw c.is_empty.ensures.none
    (attacked_is c.attackers.result men c.args.square c.args.colour
    (λ k h. c.attackers.ensures men all k h (λ kind. army.of_kind kind k h)))
