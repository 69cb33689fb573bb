-- The list gets exactly the piece's legal moves, and has room for them. A free piece leaves its king safe wherever it
-- goes; as it neither promotes nor takes en passant, it has just one legal move to each of its targets (free_listed of
-- Freely).
use Rattle.std.proofs.Common.{◌<◌, ◌++◌, List, None, length, sym, ap, subst, ◌∙◌, arith}
use Rattle.std.proofs.lemmas.List.{length-map}
use Rattle.chess_base.specs.{declared.man.Move.Move, MoveList.move_of, Sound.IsSound}
use Rattle.chess_moves.specs.Sets.{members}
use Rattle.chess_bits.proofs.Freely.{ordinary_from, free_listed}
use Rattle.chess_bits.proofs.bits.Bits.add_ordinary_moves.Goals as goal

pub add_moves_onto-requires : goal.add_moves_onto-requires
add_moves_onto-requires c =
    let p = c.args.self.now in
    let low : c.args.from < 64 = subst (λ n. n < 64) c.number-start.ensures.value c.number-start.ensures.in_range in
    let sound : IsSound p = rw (← c.self.view_is) c.self.invariant.0 in
    let alone = rw c.self.view_is at c.king-king.ensures.alone in
    let listed = free_listed p c.args.from c.king-king.result c.targets.result sound c.requires.ordinary.free
    (ordinary_from p c.args.from sound low c.requires.ordinary.ordinary) low c.king-king.ensures.in_range alone
    c.targets.ensures.sound c.targets.ensures.complete in
    omega (arith, ap length listed ∙ length-map (members c.targets.result) (λ b. move_of c.args.from b None), c.requires.room)

pub returns : goal.returns
returns c =
    let p = c.args.self.now in
    let low : c.args.from < 64 = subst (λ n. n < 64) c.number-start.ensures.value c.number-start.ensures.in_range in
    let sound : IsSound p = rw (← c.self.view_is) c.self.invariant.0 in
    let alone = rw c.self.view_is at c.king-king.ensures.alone in
    c.add_moves_onto.ensures
    ∙ ap (λ (ms : List Move). c.args.list.now.items ++ ms)
    (sym (free_listed p c.args.from c.king-king.result c.targets.result sound c.requires.ordinary.free
    (ordinary_from p c.args.from sound low c.requires.ordinary.ordinary) low c.king-king.ensures.in_range alone
    c.targets.ensures.sound c.targets.ensures.complete))
