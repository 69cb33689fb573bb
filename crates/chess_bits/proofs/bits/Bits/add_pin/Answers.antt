-- The clause `evasions`, where there is a shield, which is no longer free: each of its legal moves ends between pinner
-- and king, on the pinner, or on the en passant target (answered of Pins), and these evasions are added. A piece that
-- was not free before keeps the evasions that it had.
use Rattle.chess_base.proofs.shared.Kings.{one_king_of}
use Rattle.std.proofs.Common.{◌≡◌, ◌<◌, inl, inr, true, sym, subst, ap, ◌∙◌}
use Rattle.std.proofs.lemmas.Bool.{eqb-true, or_left, or_right}
use Rattle.chess_base.specs.{Attacks.is_clear, declared.man.Kind.TheVariants.King, Men.man_at, Men.is_man}
use Rattle.chess_bits.specs.{ties.Pins.aims_from, ties.Goes.lifted}
use Rattle.chess_moves.specs.Sets.{contains}
use Rattle.chess_bits.proofs.{Pins.aims_hit, Pins.answered, Pins.taken_out, TargetsOf.ends_below, OneKing.alone}
use Rattle.chess_bits.proofs.bits.Bits.add_pin.Goals as goal

pub returns-in-Some-clause-evasions : goal.returns-in-Some-clause-evasions
returns-in-Some-clause-evasions c =
    let p = c.self.inside.setup in
    let king : c.args.king < 64 =
    subst (λ n. n < 64) c.number-king.ensures.value c.number-king.ensures.in_range in
    let from : c.args.from < 64 =
    subst (λ n. n < 64) c.number-from.ensures.value c.number-from.ensures.in_range in
    let here : is_man p.side King (man_at p.men c.args.king) ≡ true = rw c.self.view_is c.requires.king in
    let aims : aims_from p c.args.from c.args.king ≡ true = rw c.self.view_is c.requires.aims in
    let shields = rw (← c.self.view_is) at c.in-Some.ensures in
    let evasions = rw (← c.self.view_is) at c.evasions.ensures in
    let one = alone p.men p.side c.args.king c.self.invariant.0.board (one_king_of p c.self.invariant.0 p.side) here in
    rw (← c.self.view_is)
    (λ before a low no_king outside m legal at.
    elim (taken_out (contains c.args.pins.now.free a) (contains c.without-pins.result a) (contains c.single.result a)
    (c.without-pins.ensures a low) outside) [
      | inl off ↦
          c.union-pins.ensures m.to
          ∙ or_left (contains c.args.pins.now.evasions m.to) (contains c.evasions.result m.to)
          (before a low no_king off m legal at)
      | inr taken ↦
          let same : m.from ≡ c.in-Some.shield =
          at ∙ eqb-true a c.in-Some.shield (sym (c.single.ensures.value a) ∙ taken) in
          let opens : is_clear (lifted p.men m.from) c.args.from c.args.king ≡ true =
          rw same shields.opens in
          let hits = aims_hit p (lifted p.men m.from) c.args.from c.args.king aims opens in
          c.union-pins.ensures m.to
          ∙ or_right (contains c.args.pins.now.evasions m.to) (contains c.evasions.result m.to)
          (evasions m.to (ends_below p m legal)
          (answered p m c.args.king c.args.from c.self.invariant.0 legal king one
          (ap (λ k. is_man p.side King (man_at p.men k)) at ∙ no_king) from hits.0 hits.1))
    ])
