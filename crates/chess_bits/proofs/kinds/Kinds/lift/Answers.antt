-- The two clauses: with the piece taken from its square, the set of its kind loses that square and those of the other
-- kinds stay right (lift_kinds of KindSets), and the set of all loses it (all_lift of BoardSets).
use Rattle.std.proofs.Common.{rules, refl, ◌∙◌}
use Rattle.chess_bits.proofs.{BoardSets.all_lift, KindSets.lift_kinds}
use Rattle.chess_bits.proofs.kinds.Kinds.lift.Goals as goal

pub returns-clause-kinds : goal.returns-clause-kinds
returns-clause-kinds c =
    λ men colour all there h.
    rw c.number-at.ensures.value
    (lift_kinds c.args.self.now.sets men colour c.args.kind c.args.square c.without.result c.index-self-at.result
    (search rules) all c.single-here.ensures.in_range there h
    (λ j l. c.without.ensures j l ∙ rw (c.single-here.ensures.value j, c.number-at.ensures.value) refl))

pub returns-clause-all : goal.returns-clause-all
returns-clause-all c = λ men colour all.
    all_lift c.args.self.now.all c.without-self.result men colour c.args.square all c.single-here.ensures.in_range
    (λ j l. c.without-self.ensures j l ∙ rw (c.single-here.ensures.value j) refl)
