-- The result has just the occupied squares between: king and possible pinner are on one line (aims_on_line of Pins), so
-- the table has the squares between them (by_line of BetweenSquares).
use Rattle.std.proofs.Common.{◌<◌, refl, subst, ◌∙◌}
use Rattle.chess_bits.proofs.{BetweenSquares.by_line, Pins.aims_on_line}
use Rattle.chess_bits.proofs.bits.Bits.blockers.Goals as goal

pub returns : goal.returns
returns c = λ k low.
    let p = c.self.inside.setup in
    let king : c.args.king < 64 = subst (λ n. n < 64) c.number-king.ensures.value c.number-king.ensures.in_range in
    let from : c.args.from < 64 = subst (λ n. n < 64) c.number-from.ensures.value c.number-from.ensures.in_range in
    rw (← c.self.view_is)
    (c.intersection.ensures k
    ∙ rw (
      by_line c.args.king c.args.from c.between-between.result k king from
          (aims_on_line c.args.self.now c.args.from c.args.king c.requires)
          (λ line same. c.between-between.ensures line same k low),
      (c.occupied.ensures p.men c.self.invariant.1).of_men k low,
    ) refl)
