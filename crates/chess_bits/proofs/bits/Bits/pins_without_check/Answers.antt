-- At first all own pieces but the king are free, so the invariant says nothing of other pieces' moves. For each
-- possible pinner (`aims_from`), `add_pin` takes the piece that shields the king from it, if any, out of the free ones,
-- which keeps the invariant. After the last pinner no piece that is left opens a line to the king when it leaves
-- (`KeepsClosed`), so each is free (freed of Freely), as the clause `free` says.
use Rattle.chess_base.proofs.shared.Kings.{one_king_of}
use Rattle.std.proofs.Common.{◌≡◌, ◌<◌, ◌==◌, ◌&&◌, ◌||◌, ℕ, inl, inr, not, false, true, sym, ap, refl, subst, ◌∙◌}
use Rattle.std.proofs.lemmas.Bool.{and_parts, and_from, or_right, cases_Bool, both_ways, eqb-true, not-true}
use Rattle.chess_base.specs.{Attacks.is_in_check, declared.man.Kind.TheVariants.King, Men.man_at, Men.is_man, Men.is_of}
use Rattle.chess_bits.specs.ties.Pins.{aims_from, KeepsClosed}
use Rattle.chess_moves.specs.Sets.{contains}
use Rattle.chess_moves.proofs.shared.LegalMoves.{own_man_moves}
use Rattle.chess_bits.proofs.{Freely.freed, Listed.each_member, Listed.each_first, OneKing.alone, Starts.taken_first, Starts.none_left}
use Rattle.chess_bits.proofs.bits.Bits.pins_without_check.Goals as goal

pub loop-from-init : goal.loop-from-init
loop-from-init c =
    let p = c.self.inside.setup in
    let king = c.args.king in
    let here : is_man p.side King (man_at p.men king) ≡ true = rw c.self.view_is c.requires.king in
    let one = alone p.men p.side king c.self.invariant.0.board (one_king_of p c.self.invariant.0 p.side) here in
    let own : (a : ℕ) → a < 64 → contains c.without.result a ≡ (is_of p.side (man_at p.men a) && not (a == king)) =
    λ a low. c.without.ensures a low ∙ rw (c.all.ensures p.men c.self.invariant.1 a low, c.single.ensures.value a) refl
    in
    let aims = rw (← c.self.view_is) at c.possible_pinners-rest.ensures in
    rw (← c.self.view_is)
    (record {
      own = λ a low h. sym (own a low) ∙ h;
      aims = λ b low h. sym (aims b low) ∙ h;
      closed = λ a b la lb h aimed off. absurd (both_ways (contains c.possible_pinners-rest.result b) off (aims b lb ∙ aimed));
      evasions = λ a low no_king outside m legal at.
          absurd
          (both_ways (contains c.without.result a) outside
          (own a low
          ∙ and_from (is_of p.side (man_at p.men a)) (not (a == king))
          (ap (λ k. is_of p.side (man_at p.men k)) (sym at) ∙ own_man_moves p m legal)
          (ap not (sym (one a low) ∙ no_king))));
    })

pub add_pin-requires-clause-aims : goal.add_pin-requires-clause-aims
add_pin-requires-clause-aims c =
    each_first (λ b. aims_from c.args.self.now b c.args.king ≡ true) _ c.in-Some.from _ c.in-Some.ensures
    (each_member c.loop-from.rest (λ b. aims_from c.args.self.now b c.args.king ≡ true) c.loop-from.invariant.aims)

pub loop-from-preserved : goal.loop-from-preserved
loop-from-preserved c =
    let p = c.args.self.now in
    let king = c.args.king in
    let from = c.in-Some.from in
    let before = c.loop-from.invariant in
    let rest : (b : ℕ) → b < 64
    → contains c.loop-from.rest b ≡ ((from == b) || contains c.take_first.new.self b) =
    λ b low. taken_first c.loop-from.rest c.take_first.new.self from b low c.in-Some.ensures in
    record {
      own = λ a low h. before.own a low (c.add_pin.ensures.free a low h).0;
      aims = λ b low h. before.aims b low (rest b low ∙ or_right (from == b) (contains c.take_first.new.self b) h);
      closed = λ a b la lb h aimed off.
          elim (cases_Bool (from == b)) [
            | inl same ↦ subst (λ s. KeepsClosed p a s king) (eqb-true from b same) (c.add_pin.ensures.free a la h).1
            | inr apart ↦ before.closed a b la lb (c.add_pin.ensures.free a la h).0 aimed (rest b lb ∙ rw (apart, off) refl)
          ];
      evasions = c.add_pin.ensures.evasions before.evasions;
    }

pub returns-clause-free : goal.returns-clause-free
returns-clause-free c =
    let p = c.self.inside.setup in
    let king = c.args.king in
    let there : king < 64 = subst (λ n. n < 64) c.number-king.ensures.value c.number-king.ensures.in_range in
    let here : is_man p.side King (man_at p.men king) ≡ true = rw c.self.view_is c.requires.king in
    let calm : is_in_check p.men p.side ≡ false = rw c.self.view_is c.requires.calm in
    let one = alone p.men p.side king c.self.invariant.0.board (one_king_of p c.self.invariant.0 p.side) here in
    let own = rw (← c.self.view_is) at c.loop-from.invariant.own in
    let closed = rw (← c.self.view_is) at c.loop-from.invariant.closed in
    rw (← c.self.view_is)
    (λ k low h.
    let mine = and_parts (is_of p.side (man_at p.men k)) (not (k == king)) (own k low h) in
    freed p k king c.self.invariant.0 low there calm one (not-true _ mine.1)
    (λ b high aims. closed k b low high h aims (none_left c.loop-from.rest b high c.in_default.ensures.0)))
