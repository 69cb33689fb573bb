-- By the number of pieces between king and pinner: with none the way is clear already (none_hides of Pins), so no piece
-- opens it by leaving; with one, this is the shield (one_hides); with more, no piece taken off clears the way
-- (many_hide).
use Rattle.std.proofs.Common.{◌≡◌, ◌<◌, ◌==◌, ◌&&◌, ℕ, not, sym, ap, ◌∙◌}
use Rattle.std.proofs.lemmas.Bool.{both_ways}
use Rattle.chess_base.proofs.shared.Squares.{some_square-none}
use Rattle.chess_moves.specs.Sets.{contains}
use Rattle.chess_bits.proofs.{Attackers.none_there, Pins.none_hides, Pins.one_hides, Pins.many_hide}
use Rattle.chess_bits.proofs.bits.Bits.shield.Goals as goal

pub returns-then-is_empty : goal.returns-then-is_empty
returns-then-is_empty c = λ a low clear.
    none_hides c.args.self.now.men c.blockers-blockers.result c.args.from c.args.king c.blockers-blockers.ensures
    (λ x l. none_there c.blockers-blockers.result x (sym c.is_empty.ensures.zero ∙ c.if-is_empty.true))

pub returns-then-is_empty-2 : goal.returns-then-is_empty-2
returns-then-is_empty-2 c =
    let others : (x : ℕ) → x < 64 → contains c.without-others.result x
    ≡ (contains c.blockers-blockers.result x && not (x == c.first-shield.result)) =
    λ x l. c.without-others.ensures x l
    ∙ ap (λ t. contains c.blockers-blockers.result x && not t) (c.single.ensures.value x) in
    one_hides c.args.self.now c.blockers-blockers.result c.without-others.result c.first-shield.result c.args.from c.args.king
    c.setup-sound.ensures.sound.board c.first-shield.ensures.in_range c.blockers-blockers.ensures
    c.first-shield.ensures.nearest.here others
    (λ x l. none_there c.without-others.result x (sym c.is_empty-2.ensures.zero ∙ c.if-is_empty-2.true))

pub returns-else-is_empty-2 : goal.returns-else-is_empty-2
returns-else-is_empty-2 c = λ a low clear.
    let others : (x : ℕ) → x < 64 → contains c.without-others.result x
    ≡ (contains c.blockers-blockers.result x && not (x == c.first-shield.result)) =
    λ x l. c.without-others.ensures x l
    ∙ ap (λ t. contains c.blockers-blockers.result x && not t) (c.single.ensures.value x) in
    absurd
    (both_ways c.is_empty-2.result c.if-is_empty-2.false
    (c.is_empty-2.ensures.none
    ∙ ap not
    (some_square-none (λ x. contains c.without-others.result x)
    (many_hide c.args.self.now c.blockers-blockers.result c.without-others.result c.first-shield.result a c.args.from
    c.args.king c.setup-sound.ensures.sound.board c.first-shield.ensures.in_range low c.blockers-blockers.ensures
    c.first-shield.ensures.nearest.here others clear))))
