-- The pieces are put on the empty board kind by kind, from pawns to kings; then each square has what the sets say
-- (kinds_put, men_all of Unpacked).
use Rattle.std.proofs.Common.{ap, ◌∙◌}
use Rattle.chess_base.specs.declared.man.Kind.TheVariants.{King, Queen, Rook, Bishop, Knight, Pawn}
use Rattle.chess_game.specs.ties.Packed.{put_at}
use Rattle.chess_game.proofs.Unpacked.{none_put, kinds_put, men_all}
use Rattle.chess_game.proofs.packed.PackedMen.unpacked.Goals as goal

pub returns : goal.returns
returns c =
    let p = c.args.self.now in
    men_all p c.put_kind-6.new.men c.put_kind-6.ensures.length
    (λ k low. c.put_kind-6.ensures.each k low
    ∙ ap (put_at p p.kings King k) (c.put_kind-5.ensures.each k low
    ∙ ap (put_at p p.queens Queen k) (c.put_kind-4.ensures.each k low
    ∙ ap (put_at p p.rooks Rook k) (c.put_kind-3.ensures.each k low
    ∙ ap (put_at p p.bishops Bishop k) (c.put_kind-2.ensures.each k low
    ∙ ap (put_at p p.knights Knight k) (c.put_kind.ensures.each k low
    ∙ ap (put_at p p.pawns Pawn k) (none_put k low))))))
    ∙ kinds_put p k)
