-- The result has square k, where the sets are right, exactly if a piece of this colour on k attacks `square`. Seen from
-- `square`, that is a piece of a kind that would attack k from there; for a pawn, a pawn of the other colour would
-- (attackers_are of Attackers).
use Rattle.chess_base.specs.{Men.man_at, Attacks.attacks}
use Rattle.chess_base.specs.declared.man.Kind.TheVariants.{King, Queen, Rook, Bishop, Knight, Pawn}
use Rattle.chess_bits.proofs.Attackers.{attackers_are, open_is_clear}
use Rattle.chess_bits.proofs.kinds.Kinds.attackers.Goals as goal

pub returns : goal.returns
unfolding attacks
returns c =
    λ men all k h army.
    rw (
      c.union-4.ensures k,
      c.union-3.ensures k,
      c.union.ensures k,
      c.union-2.ensures k,
      c.met_on_lines-lines.ensures k h,
      c.met_on_diagonals-diagonals.ensures k h,
      c.intersection-kings.ensures k,
      c.intersection-knights.ensures k,
      c.intersection-pawns.ensures k,
      c.with_queens-straight.ensures k,
      c.with_queens-aslant.ensures k,
      c.at.ensures k h,
      c.at-2.ensures k h,
      c.at-3.ensures k h,
      c.other.ensures,
      open_is_clear c.args.occupied men k c.args.square all,
      c.of.ensures,
      c.of-2.ensures,
      c.of-3.ensures,
      army King,
      army Queen,
      army Rook,
      army Bishop,
      army Knight,
      army Pawn,
    )
    (attackers_are men c.args.colour k c.args.square (man_at men k))
