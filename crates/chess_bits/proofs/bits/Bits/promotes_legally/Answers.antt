-- The one test decides for each of the four kinds: each of these promotions is pseudo-legal (pattern_from of Patterns)
-- and neither the king's nor en passant, since the target is not on the last rank (no_target_there of Pins). So it has
-- the property `StepsPlainly`, and `is_safe_plain` answers for whatever promotion.
use Rattle.chess_base.proofs.shared.Men.{is_man-kind}
use Rattle.std.proofs.Common.{◌≡◌, ◌==◌, true, Some, sym, subst, refl}
use Rattle.std.proofs.lemmas.Bool.{and_parts, and_right, eqb-true}
use Rattle.chess_base.specs.{declared.man.Kind.TheVariants.Pawn, declared.man.Kind.TheVariants.King, Moves.promotion_fits, Squares.is_at, Squares.rank, MoveList.move_of}
use Rattle.chess_base.specs.Men.{first_rank, man_at, is_man, other}
use Rattle.chess_moves.specs.Promoting.{would_promote}
use Rattle.chess_bits.specs.ties.Goes.{goes}
use Rattle.chess_bits.proofs.{Pins.no_target_there, Patterns.pattern_from}
use Rattle.chess_bits.proofs.bits.Bits.promotes_legally.Goals as goal

pub returns : goal.returns
unfolding would_promote
returns c =
    let p = c.self.inside.setup in
    let a = c.args.from in
    let b = c.args.to in
    let go : goes p a b ≡ true = rw c.self.view_is c.requires.goes in
    let last : would_promote p a b ≡ true = rw c.self.view_is c.requires.promotes in
    let both = and_parts (is_man p.side Pawn (man_at p.men a)) (rank b == first_rank (other p.side)) last in
    let off = no_target_there p b c.self.invariant.0 (eqb-true (rank b) (first_rank (other p.side)) both.1) in
    let safe = rw (← c.self.view_is) at c.is_safe_plain.ensures in
    rw (← c.self.view_is)
    (λ kind fits.
    safe (Some kind) (record {
      pattern = pattern_from p (move_of a b (Some kind)) go (subst (λ t. promotion_fits t (Some kind) ≡ true) (sym last) fits);
      no_king = is_man-kind p.side p.side Pawn King (man_at p.men a) refl both.0;
      no_passing = and_right (is_man p.side Pawn (man_at p.men a)) (is_at p.target b) off;
    }))
