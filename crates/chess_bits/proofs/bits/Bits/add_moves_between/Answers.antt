-- The list gets exactly the legal moves between the two squares, and there is room for them: `legal_promotions` gives
-- one promotion (or `None`) for each of these moves, so their numbers are equal too.
use Rattle.std.proofs.Common.{◌≡◌, ◌++◌, List, length, sym, ap, ◌∙◌, arith}
use Rattle.std.proofs.lemmas.List.{length-map}
use Rattle.chess_base.specs.{declared.man.Move.Move, MoveList.move_of}
use Rattle.chess_moves.specs.shared.MovesBySquares.{moves_between}
use Rattle.chess_bits.proofs.bits.Bits.add_moves_between.Goals as goal

pub add_moves_with-requires : goal.add_moves_with-requires
add_moves_with-requires c =
    let same : length c.legal_promotions.result.now ≡ length (moves_between c.args.self.now c.args.from c.args.to) =
    sym (length-map c.legal_promotions.result.now (move_of c.args.from c.args.to)) ∙ ap length c.legal_promotions.ensures in
    omega (arith, same, c.requires.room)

pub returns : goal.returns
returns c = c.add_moves_with.ensures
    ∙ ap (λ (ms : List Move). c.args.list.now.items ++ ms) c.legal_promotions.ensures
