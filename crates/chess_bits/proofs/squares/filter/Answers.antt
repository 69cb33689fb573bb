-- The test may be called, since the first square of `rest` is of the set (first_in of Starts). It leaves `rest`, and is
-- chosen as the test answers for it, while nothing changes for the others (chosen_next): so the invariant stays. At the
-- end `rest` is empty, so each square of the set is chosen as the test answered (the clause `inside`).
use mathlib.Core.Bool.{and-false, and-true, or-false}
use Rattle.std.proofs.Common.{◌≡◌, ℕ, ◌<◌, ◌==◌, ◌&&◌, ◌||◌, Bool, inl, inr, false, refl, sym, ap, subst, ◌∙◌}
use Rattle.std.proofs.lemmas.Bool.{both_ways, cases_Bool, eq-eqb, eqb-true, false_from_ne_true, or_right}
use Rattle.chess_moves.specs.Sets.{contains}
use Rattle.chess_bits.proofs.Starts.{first_gone, first_in, none_left, taken_first}
use Rattle.chess_base.proofs.shared.MenAfter.{eqb_comm}
use Rattle.chess_bits.proofs.squares.filter.Goals as goal

pub test-passed-requires : goal.test-passed-requires
test-passed-requires g c =
    let here = first_in c.loop-square.rest c.take_first.new.self c.in-Some.square c.in-Some.ensures in
    c.requires c.in-Some.square here.0 (c.loop-square.invariant.within c.in-Some.square here.0 here.1)

-- whether square k is chosen after square s was tested
chosen_next : (before now : ℕ) (t : Bool) (s k : ℕ) → contains now k ≡ (contains before k || (t && (k == s)))
    → (k == s) ≡ false → contains now k ≡ contains before k
chosen_next before now t s k e apart = e ∙ rw (apart, and-false t) (or-false (contains before k))

pub loop-square-preserved : goal.loop-square-preserved
loop-square-preserved g c =
    let s = c.in-Some.square in
    let left = c.take_first.new.self in
    let inv = c.loop-square.invariant in
    let here = first_in c.loop-square.rest left s c.in-Some.ensures in
    let rest : (k : ℕ) → k < 64 → contains c.loop-square.rest k ≡ ((s == k) || contains left k) =
    λ k low. taken_first c.loop-square.rest left s k low c.in-Some.ensures in
    let gone : contains left s ≡ false = first_gone c.loop-square.rest left s here.0 c.in-Some.ensures in
    let all : (k : ℕ) → contains c.union-chosen.result k
    ≡ (contains c.loop-square.chosen k || (c.test-passed.result && (k == s))) =
    λ k. c.union-chosen.ensures k ∙ ap (λ t. contains c.loop-square.chosen k || t) (c.single_if.ensures k) in
    let same : (k : ℕ) → (k == s) ≡ false → contains c.union-chosen.result k ≡ contains c.loop-square.chosen k =
    λ k. chosen_next c.loop-square.chosen c.union-chosen.result c.test-passed.result s k (all k) in
    let value : contains c.union-chosen.result s ≡ c.test-passed.result =
    all s ∙ rw (inv.left s here.0 here.1, eq-eqb s s refl) (and-true c.test-passed.result) in
    record {
      within = λ k low h. inv.within k low (rest k low ∙ or_right (s == k) (contains left k) h);
      left = λ k low h.
          same k
          (false_from_ne_true (k == s)
          (λ e. both_ways (contains left s) gone (ap (λ j. contains left j) (sym (eqb-true k s e)) ∙ h)))
          ∙ inv.left k low (rest k low ∙ or_right (s == k) (contains left k) h);
      inside = λ k low on out.
          elim (cases_Bool (k == s)) [
            | inl e ↦
                subst (λ j. g.F.Fn.post c.args.test (j, tt) (contains c.union-chosen.result j)) (sym (eqb-true k s e))
                (subst (λ r. g.F.Fn.post c.args.test (s, tt) r) (sym value) c.test-passed.ensures)
            | inr apart ↦
                subst (λ r. g.F.Fn.post c.args.test (k, tt) r) (sym (same k apart))
                (inv.inside k low on (rest k low ∙ rw (eqb_comm s k ∙ apart, out) refl))
          ];
      outside = λ k low off.
          same k
          (false_from_ne_true (k == s)
          (λ e. both_ways (contains c.args.set k) off
          (ap (λ j. contains c.args.set j) (eqb-true k s e) ∙ inv.within s here.0 here.1)))
          ∙ inv.outside k low off;
    }

pub returns-clause-inside : goal.returns-clause-inside
returns-clause-inside g c = λ k low on.
    c.loop-square.invariant.inside k low on (none_left c.loop-square.rest k low c.in_default.ensures.0)
