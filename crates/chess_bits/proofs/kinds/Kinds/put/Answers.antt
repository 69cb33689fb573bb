-- The two clauses: with the piece put on an empty square, the set of its kind gains that square and those of the other
-- kinds stay right (put_kinds of KindSets), and the set of all gains it (all_put of BoardSets).
use Rattle.std.proofs.Common.{rules, refl, ◌∙◌}
use Rattle.chess_bits.proofs.{BoardSets.all_put, KindSets.put_kinds}
use Rattle.chess_bits.proofs.kinds.Kinds.put.Goals as goal

pub returns-clause-kinds : goal.returns-clause-kinds
returns-clause-kinds c =
    λ men colour all bare h.
    rw c.number-at.ensures.value
    (put_kinds c.args.self.now.sets men colour c.args.kind c.args.square c.union.result c.index-self-at.result
    (search rules) all c.single-here.ensures.in_range bare h
    (λ j. c.union.ensures j ∙ rw (c.single-here.ensures.value j, c.number-at.ensures.value) refl))

pub returns-clause-all : goal.returns-clause-all
returns-clause-all c = λ men colour o all own.
    all_put c.args.self.now.all c.union-self.result men colour c.args.square o all c.single-here.ensures.in_range own
    (λ j. c.union-self.ensures j ∙ rw (c.single-here.ensures.value j) refl)
