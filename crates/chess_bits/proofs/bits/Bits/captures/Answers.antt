-- The result has just the squares where the pawn captures: those that it attacks and that hold an enemy piece or are
-- the en passant target (captures_is of TargetsOf).
use Rattle.std.proofs.Common.{◌≡◌, ◌∙◌, true}
use Rattle.chess_base.specs.{declared.man.Kind.TheVariants.Pawn, Men.man_at, Men.is_man}
use Rattle.chess_bits.proofs.{Reached.pawn_from, TargetsOf.captures_is}
use Rattle.chess_bits.proofs.bits.Bits.captures.Goals as goal

pub returns : goal.returns
returns c = λ k low.
    let p = c.self.inside.setup in
    let men = p.men in
    let pawn : is_man p.side Pawn (man_at men c.args.from) ≡ true = rw c.self.view_is c.requires in
    rw (← c.self.view_is)
    (c.intersection.ensures k
    ∙ rw (
      c.at-reached.ensures k low,
      pawn_from men p.side c.args.from k,
      c.union-aims.ensures k,
      c.all-taken.ensures
          men c.self.invariant.1 k low,
      c.set_of.ensures k,
      c.other.ensures,
    ) (captures_is p c.args.from k pawn))
