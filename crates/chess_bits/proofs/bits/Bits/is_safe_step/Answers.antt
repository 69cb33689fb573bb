-- A step is legal exactly if no enemy attacks its end with the king taken off the board (step_is of KingSteps). On that
-- board the enemy's sets are the same, and the occupied squares are the same but for the king's (lifted_kinds and
-- lifted_occupied of Lifted), so `attacks` answers it.
use Rattle.std.proofs.Common.{◌≡◌, ◌<◌, false, not, ◌&&◌, subst, ap, ◌∙◌}
use Rattle.chess_base.specs.{declared.man.Kind.TheVariants.King, Attacks.is_attacked, Men.man_at, Men.is_of}
use Rattle.chess_base.proofs.shared.Men.{no_other}
use Rattle.chess_moves.specs.Sets.{contains}
use Rattle.chess_bits.specs.ties.Goes.{lifted}
use Rattle.chess_bits.proofs.{KingSteps.step_is, Lifted.lifted_kinds, Lifted.lifted_occupied}
use Rattle.chess_bits.proofs.bits.Bits.is_safe_step.Goals as goal

pub returns : goal.returns
returns c =
    let p = c.self.inside.setup in
    let a = c.args.king in
    let low : a < 64 = subst (λ n. n < 64) c.number-start.ensures.value c.number-start.ensures.in_range in
    let high : c.args.to < 64 = subst (λ n. n < 64) c.number-end.ensures.value c.number-end.ensures.in_range in
    rw (← c.self.view_is)
    (λ king step.
    let theirs : is_of c.other-by.result (man_at p.men a) ≡ false =
    rw c.other-by.ensures (no_other p.side King (man_at p.men a) king) in
    let kinds = lifted_kinds _ p.men c.other-by.result a c.self.invariant.0.board low theirs
    (c.of.ensures p.men c.self.invariant.1) in
    let occupied = lifted_occupied c.occupied.result c.without-left.result p.men a c.self.invariant.0.board low
    (c.occupied.ensures p.men c.self.invariant.1)
    (λ k l. c.without-left.ensures k l ∙ ap (λ t. contains c.occupied.result k && not t) (c.single.ensures.value k)) in
    let hit = c.attacks.ensures (lifted p.men a) kinds occupied in
    ap not (hit ∙ ap (is_attacked (lifted p.men a) c.args.to) c.other-by.ensures)
    ∙ step_is p a c.args.to c.self.invariant.0 king step low high)
