-- The result has just the start of the king's legal move to the square. The side on move has one king, so no other
-- square can be a start (king_start of ByKind); and a king is on this one, as `king_goes_legally` requires.
use Rattle.std.proofs.Common.{ap, refl, ◌&&◌, ◌==◌, ◌∙◌, eq-eqb}
use Rattle.chess_bits.proofs.ByKind.{king_start}
use Rattle.chess_bits.proofs.bits.Bits.king_starts.Goals as goal

pub king_goes_legally-requires : goal.king_goes_legally-requires
king_goes_legally-requires c =
    let alone = rw (← c.self.view_is) at c.king-king.ensures.alone in
    rw (← c.self.view_is)
    (alone c.king-king.result c.king-king.ensures.in_range ∙ eq-eqb c.king-king.result c.king-king.result refl)

pub returns : goal.returns
returns c = λ k low.
    let alone = rw c.self.view_is at c.king-king.ensures.alone in
    c.single_if.ensures k ∙ ap (λ t. t && (k == c.king-king.result)) c.king_goes_legally.ensures
    ∙ king_start c.args.self.now c.args.to c.king-king.result k (alone k low)
