-- The result has just the squares from a to b, both included: two squares of one rank are on one line, so the table has
-- what is between them, and the ends are added.
use Rattle.std.proofs.Common.{refl, ◌∙◌, eq-eqb}
use Rattle.chess_base.specs.{Squares.rank, declared.line.Line.TheVariants.Rank}
use Rattle.chess_bits.proofs.bits.Bits.way.Goals as goal

pub returns : goal.returns
returns c = λ k low.
    c.union.ensures k
    ∙ rw (
      c.union-ends.ensures k,
      c.single.ensures.value k,
      c.single-2.ensures.value k,
      c.between.ensures Rank (eq-eqb (rank c.args.a) (rank c.args.b) c.requires) k low,
    ) refl
