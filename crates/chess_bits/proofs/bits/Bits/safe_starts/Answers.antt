-- The result has just the squares of `men` from which the move is legal. In each turn the first square leaves `rest`,
-- and it is chosen exactly if its move is legal, while nothing changes for the others (chosen_next): so the invariant
-- stays. At the end `rest` is empty.
use mathlib.Core.Bool.{and-true}
use Rattle.std.proofs.Common.{◌≡◌, ℕ, ◌<◌, ◌==◌, ◌&&◌, ◌||◌, not, Bool, inl, inr, true, false, None, refl, sym, ap, ◌∙◌}
use Rattle.std.proofs.lemmas.Bool.{cases_Bool, eqb-true, or_right}
use Rattle.chess_base.specs.{MoveList.move_of, Moves.is_legal}
use Rattle.chess_moves.specs.Sets.{contains}
use Rattle.chess_bits.proofs.Starts.{first_gone, first_in, none_left, taken_first}
use Rattle.chess_base.proofs.shared.MenAfter.{eqb_comm}
use Rattle.chess_bits.proofs.bits.Bits.safe_starts.Goals as goal

-- two facts of tests, for `chosen_next`: of square s, which was tested, and of another square
tested : (l : Bool) → ((true && not (true || false) && l) || (l && true)) ≡ (true && not false && l)
tested true = refl
tested false = refl

untested : (x safe : Bool) → (x || (safe && false)) ≡ x
untested true safe = refl
untested false true = refl
untested false false = refl

-- whether square k is chosen after square s was tested
chosen_next : (men left legal : ℕ → Bool) (before safe : Bool) (s k : ℕ)
    → before ≡ (men k && not ((s == k) || left k) && legal k) → safe ≡ legal s → men s ≡ true → left s ≡ false
    → (before || (safe && (k == s))) ≡ (men k && not (left k) && legal k)
chosen_next men left legal before safe s k e f on out =
    elim (cases_Bool (s == k)) [
      | inl same ↦
          let j = eqb-true s k same in
          rw (e, same, f ∙ ap legal j, ap men (sym j) ∙ on, ap left (sym j) ∙ out, sym (eqb_comm s k) ∙ same)
          (tested (legal k))
      | inr apart ↦ rw (e, apart, sym (eqb_comm s k) ∙ apart) (untested _ safe)
    ]

pub loop-from-preserved : goal.loop-from-preserved
loop-from-preserved c =
    let p = c.args.self.now in
    let s = c.in-Some.from in
    let left = c.take_first.new.self in
    let inv = c.loop-from.invariant in
    let here = first_in c.loop-from.rest left s c.in-Some.ensures in
    let rest : (k : ℕ) → k < 64 → contains c.loop-from.rest k ≡ ((s == k) || contains left k) =
    λ k low. taken_first c.loop-from.rest left s k low c.in-Some.ensures in
    let on = inv.within s here.0 here.1 in
    let safe = c.is_safe_plain-is_safe.ensures None (c.requires s here.0 on) in
    record {
      within = λ k low h. inv.within k low (rest k low ∙ or_right (s == k) (contains left k) h);
      chosen = λ k low.
          c.union-starts.ensures k
          ∙ ap (λ t. contains c.loop-from.starts k || t) (c.single_if.ensures k)
          ∙ chosen_next (contains c.args.men) (contains left) (λ a. is_legal p (move_of a c.args.to None))
          (contains c.loop-from.starts k) c.is_safe_plain-is_safe.result s k
          (inv.chosen k low
          ∙ ap (λ t. contains c.args.men k && not t && is_legal p (move_of k c.args.to None)) (rest k low))
          safe on (first_gone c.loop-from.rest left s here.0 c.in-Some.ensures);
    }

pub returns : goal.returns
returns c = λ k low.
    c.loop-from.invariant.chosen k low
    ∙ rw (none_left c.loop-from.rest k low c.in_default.ensures.0, and-true (contains c.args.men k)) refl
