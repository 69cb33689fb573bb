-- The two clauses: after the move to an empty square the sets of the six kinds are right (shift_kinds of KindSets), and
-- so is the set of all, which loses the start square (all_lift of BoardSets) and gains the end square (all_put).
use Rattle.std.proofs.Common.{◌∙◌, None, length-set, rules, refl, slice_set}
use Rattle.chess_bits.proofs.{BoardSets.all_lift, BoardSets.all_put, KindSets.shift_kinds}
use Rattle.chess_bits.proofs.kinds.Kinds.shift.Goals as goal

pub returns-clause-kinds : goal.returns-clause-kinds
returns-clause-kinds c =
    λ men colour all there bare h.
    rw c.number-at.ensures.value
    (shift_kinds c.args.self.now.sets men colour c.args.kind c.args.from c.args.to c.without-rest.result
    c.union.result c.index-self-at.result
    (search rules) all c.single-left.ensures.in_range c.single-entered.ensures.in_range there bare h
    (λ j l. c.without-rest.ensures j l ∙ rw (c.single-left.ensures.value j, c.number-at.ensures.value) refl)
    (λ j. c.union.ensures j ∙ rw (c.single-entered.ensures.value j) refl))

pub returns-clause-all : goal.returns-clause-all
returns-clause-all c = λ men colour o all own h.
    all_put c.without-others.result c.union-self.result (slice_set men c.args.from None) colour c.args.to o
    (length-set men c.args.from None ∙ all) c.single-entered.ensures.in_range own
    (λ j. c.union-self.ensures j ∙ rw (c.single-entered.ensures.value j) refl)
    (all_lift c.args.self.now.all c.without-others.result men colour c.args.from all c.single-left.ensures.in_range
    (λ j l. c.without-others.ensures j l ∙ rw (c.single-left.ensures.value j) refl) h)
