-- The list gets exactly the king's legal moves, and has room for them: a king promotes nothing, so it has one legal
-- move to each square where one ends (king_listed of KingListed).
use Rattle.std.proofs.Common.{◌++◌, List, sym, ap, ◌∙◌, arith}
use Rattle.chess_base.specs.declared.man.Move.{Move}
use Rattle.chess_bits.proofs.KingListed.{king_counted, king_listed}
use Rattle.chess_bits.proofs.bits.Bits.add_king_moves.Goals as goal

pub add_moves_onto-requires : goal.add_moves_onto-requires
add_moves_onto-requires c =
    let counted = king_counted c.args.self.now c.args.king c.king_ends.result c.requires.king c.king_ends.ensures in
    omega (arith, counted, c.requires.room)

pub returns : goal.returns
returns c =
    c.add_moves_onto.ensures
    ∙ ap (λ (ms : List Move). c.args.list.now.items ++ ms)
    (sym (king_listed c.args.self.now c.args.king c.king_ends.result c.requires.king c.king_ends.ensures))
