-- The result has just the squares of `man_goes`. An officer goes where it attacks what is no own piece (officer_is of
-- TargetsOf); so does a king, or it castles legally (king_goes of KingSteps). The start is not empty, since an own
-- piece is there by the contract (no_own).
use Rattle.std.proofs.Common.{rules, ◌≡◌, ◌||◌, true, ap, sym, ◌∙◌, Some, None}
use Rattle.chess_base.specs.{declared.man.Kind.TheVariants.King, Men.man_at, Men.same_kind, Sound.IsSound}
use Rattle.chess_moves.specs.Sets.{contains}
use Rattle.chess_bits.proofs.{KingSteps.king_goes, KingSteps.king_told, KingSteps.steps_are, TargetsOf.officer_is, TargetsOf.no_own}
use Rattle.chess_bits.proofs.bits.Bits.man_targets.Goals as goal

pub returns-then-is_king : goal.returns-then-is_king
returns-then-is_king c = λ k low.
    let p = c.args.self.now in
    let a = c.args.from in
    let at : man_at c.args.self.now.men c.args.from ≡ Some c.in-Some.man = search rules in
    let king : same_kind King c.in-Some.man.kind ≡ true = sym c.is_king.ensures ∙ c.if-is_king.true in
    let sound : IsSound c.args.self.now = rw (← c.self.view_is) c.self.invariant.0 in
    let step = c.targets_by_attack.ensures k low
    ∙ steps_are p a k (king_told p.side c.in-Some.man (man_at p.men a) at c.requires king) in
    c.union.ensures k ∙ ap (λ t. t || contains c.targets_by_attack.result k) (c.castling_ends.ensures k low)
    ∙ king_goes p a k c.in-Some.man (contains c.targets_by_attack.result k) sound at c.requires king step

pub returns : goal.returns
returns c = λ k low.
    let at : man_at c.args.self.now.men c.args.from ≡ Some c.in-Some.man = search rules in
    c.targets_by_attack-2.ensures k low ∙ officer_is c.args.self.now c.args.from k c.in-Some.man at c.requires
    (sym c.is_king.ensures ∙ c.if-is_king.false)

pub returns-in_default : goal.returns-in_default
returns-in_default c =
    let none : man_at c.args.self.now.men c.args.from ≡ None = search rules in
    absurd (no_own c.args.self.now.side (man_at c.args.self.now.men c.args.from) none c.requires)
