-- The number of targets is that of the piece's legal moves: a free piece leaves its king safe wherever it goes, so it
-- has one legal move to each square that it attacks and no own piece holds (officer_counted of KindsCounted).
use Rattle.std.proofs.Common.{◌<◌, subst, ◌∙◌}
use Rattle.chess_base.specs.Sound.{IsSound}
use Rattle.chess_bits.proofs.KindsCounted.{officer_counted}
use Rattle.chess_bits.proofs.bits.Bits.count_officer.Goals as goal

pub returns : goal.returns
returns c =
    let p = c.args.self.now in
    let low : c.args.from < 64 = subst (λ n. n < 64) c.number-start.ensures.value c.number-start.ensures.in_range in
    let sound : IsSound p = rw (← c.self.view_is) c.self.invariant.0 in
    let alone = rw c.self.view_is at c.king-king.ensures.alone in
    c.len.ensures
    ∙ officer_counted p c.args.from c.king-king.result c.targets_by_attack.result c.args.kind sound c.requires.free
    c.requires.officer c.requires.kind low c.king-king.ensures.in_range alone c.targets_by_attack.ensures
