-- The pieces on a square differ where one of the seven sets does (differ_at of AsSets).
use Rattle.chess_base.specs.Men.{man_at}
use Rattle.chess_game.specs.ties.Packed.{men_in}
use Rattle.chess_game.proofs.AsSets.{differ_at}
use Rattle.chess_game.proofs.packed.PackedMen.differing.Goals as goal

pub returns : goal.returns
returns c = λ k low.
    let p = c.args.self.now in
    let q = c.args.other.now in
    rw (
      c.union-6.ensures k,
      c.union-5.ensures k,
      c.union-4.ensures k,
      c.union-3.ensures k,
      c.union-2.ensures k,
      c.union.ensures k,
      c.difference-white.ensures k low,
      c.difference-kings.ensures k low,
      c.difference-queens.ensures k low,
      c.difference-rooks.ensures k low,
      c.difference-bishops.ensures k low,
      c.difference-knights.ensures k low,
      c.difference-pawns.ensures k low,
    )
    (differ_at p q k (man_at (men_in p) k) (man_at (men_in q) k) (c.requires.this k low) (c.requires.other k low))
