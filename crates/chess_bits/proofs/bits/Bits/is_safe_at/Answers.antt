-- The result is whether the move is legal. The occupied squares and the enemy's pieces after the move, as they follow
-- from `filled` and `changed`, are right (later_after of AfterSets), so `attacks_outside` answers whether the king's
-- square is attacked then. That is whether there is check (check_after of KingAfter), and without check the move is
-- legal (legal_is).
use Rattle.std.proofs.Common.{not, sym, ap, ◌∙◌}
use Rattle.chess_base.specs.{Attacks.is_attacked, Moves.men_after}
use Rattle.chess_bits.specs.ties.Occupancy.{IsOccupied, IsLater}
use Rattle.chess_bits.proofs.AfterSets.{later_after}
use Rattle.chess_bits.proofs.KingAfter.{mover_some, mover_own, check_after, legal_is}
use Rattle.chess_bits.proofs.bits.Bits.is_safe_at.Goals as goal

pub returns : goal.returns
returns c =
    let p = c.self.inside.setup in
    let by = c.other-by.result in
    rw (← c.self.view_is)
    (λ m pattern low there filled changed.
    let later : IsLater c.args.changed c.args.filled by p.men (men_after p m) =
    rw c.other-by.ensures (later_after p m c.args.changed c.args.filled (mover_some p m pattern)
    (mover_own p m pattern) changed filled) in
    let stood = c.occupied.ensures p.men c.self.invariant.1 in
    let occupied : IsOccupied c.union-occupied.result (men_after p m) =
    record {
      of_men = λ k l. c.union-occupied.ensures k
          ∙ rw (c.without-kept.ensures k l, stood.of_men k l) (later.of_all k l);
    } in
    let hit = c.attacks_outside.ensures p.men (men_after p m) c.args.filled (c.of-men.ensures p.men c.self.invariant.1)
    later occupied in
    ap not (hit ∙ ap (is_attacked (men_after p m) c.args.king) c.other-by.ensures
    ∙ sym (check_after p m c.args.king c.self.invariant.0 pattern low there)) ∙ legal_is p m pattern)
