-- If the set of the king's attackers is empty, there is no check, as `pins_without_check` requires (attacked_is of
-- Attackers, check_is of AfterSets). Otherwise no piece is free, and each legal move of a piece other than the king
-- ends on an evasion against the first attacker (check_met of Pins), as the clause `evasions` says.
use Rattle.std.proofs.Common.{◌≡◌, ◌<◌, ◌&&◌, ℕ, not, sym, ap, ◌∙◌}
use Rattle.chess_base.specs.{Attacks.attacks, declared.man.Kind.TheVariants.King}
use Rattle.chess_base.specs.Men.{man_at, is_of, is_man, other}
use Rattle.chess_moves.specs.Sets.{contains}
use Rattle.chess_bits.proofs.{AfterSets.check_is, Attackers.attacked_is, Pins.check_met, TargetsOf.ends_below}
use Rattle.chess_bits.proofs.bits.Bits.pins.Goals as goal

pub pins_without_check-requires-clause-calm : goal.pins_without_check-requires-clause-calm
pins_without_check-requires-clause-calm c =
    let p = c.self.inside.setup in
    let king = c.king-king.result in
    let one = rw (← c.self.view_is) at c.king-king.ensures.alone in
    let kinds = c.of-men.ensures p.men c.self.invariant.1 in
    let gives : (k : ℕ) → k < 64
    → contains c.attackers-checkers.result k ≡ (is_of (other p.side) (man_at p.men k) && attacks p.men k king) =
    rw (← c.other-by.ensures)
    (λ k low. c.attackers-checkers.ensures p.men (c.occupied.ensures p.men c.self.invariant.1) k low
    (λ kind. kinds.of_kind kind k low)) in
    rw (← c.self.view_is)
    (check_is p.men p.side king c.king-king.ensures.in_range one
    ∙ sym (attacked_is c.attackers-checkers.result p.men king (other p.side) gives)
    ∙ ap not (sym c.is_empty.ensures.none ∙ c.if-is_empty.true))

pub returns-clause-evasions : goal.returns-clause-evasions
returns-clause-evasions c =
    let p = c.self.inside.setup in
    let king = c.king-king.result in
    let one = rw (← c.self.view_is) at c.king-king.ensures.alone in
    let kinds = c.of-men.ensures p.men c.self.invariant.1 in
    let gives : (k : ℕ) → k < 64
    → contains c.attackers-checkers.result k ≡ (is_of (other p.side) (man_at p.men k) && attacks p.men k king) =
    rw (← c.other-by.ensures)
    (λ k low. c.attackers-checkers.ensures p.men (c.occupied.ensures p.men c.self.invariant.1) k low
    (λ kind. kinds.of_kind kind k low)) in
    let evasions = rw (← c.self.view_is) at c.evasions.ensures in
    rw (← c.self.view_is)
    (λ a low no_king outside m legal at.
    evasions m.to (ends_below p m legal)
    (check_met p m king c.first.result c.self.invariant.0 legal c.king-king.ensures.in_range one
    (ap (λ k. is_man p.side King (man_at p.men k)) at ∙ no_king) c.first.ensures.in_range
    (sym (gives c.first.result c.first.ensures.in_range) ∙ c.first.ensures.nearest.here)))
