-- The result is whether some square of the set passes; and each call of the test is allowed, since the first square of
-- `rest` is of the set (first_in of Starts). If it passes, some square does (one_passes); if not, the others decide
-- (one_fails), so the invariant stays; at the end none is left.
use Rattle.std.proofs.Common.{◌≡◌, ℕ, Bool, ◌==◌, List, ◌∷◌, true, false, refl, sym, ap, ◌∙◌}
use Rattle.std.specs.List.{list_any}
use Rattle.std.proofs.lemmas.Bool.{or_right}
use Rattle.chess_moves.specs.Sets.{contains}
use Rattle.chess_bits.proofs.Starts.{first_in, taken_first}
use Rattle.chess_bits.proofs.squares.any.Goals as goal

one_passes : (q : ℕ → Bool) (ms ns : List ℕ) (s : ℕ) → ms ≡ s ∷ ns → q s ≡ true → list_any q ms ≡ true
one_passes q ms ns s e on = rw (e, on) refl

one_fails : (q : ℕ → Bool) (ms ns : List ℕ) (s : ℕ) → ms ≡ s ∷ ns → q s ≡ false → list_any q ns ≡ list_any q ms
one_fails q ms ns s e off = rw (e, off) refl

pub test-requires : goal.test-requires
test-requires g c =
    let here = first_in c.loop-square.rest c.take_first.new.self c.in-Some.square c.in-Some.ensures in
    c.requires c.in-Some.square here.0 (c.loop-square.invariant.within c.in-Some.square here.0 here.1)

pub returns-then-test : goal.returns-then-test
returns-then-test g c = λ q h.
    let s = c.in-Some.square in
    let here = first_in c.loop-square.rest c.take_first.new.self s c.in-Some.ensures in
    let passed = h s here.0 (c.loop-square.invariant.within s here.0 here.1) c.test.result c.test.ensures in
    sym (sym (c.loop-square.invariant.same q h)
    ∙ one_passes q _ _ s c.in-Some.ensures (sym passed ∙ c.if-test.true))

pub loop-square-preserved : goal.loop-square-preserved
loop-square-preserved g c =
    let s = c.in-Some.square in
    let left = c.take_first.new.self in
    let inv = c.loop-square.invariant in
    let here = first_in c.loop-square.rest left s c.in-Some.ensures in
    record {
      within = λ k low on.
          inv.within k low
          (taken_first c.loop-square.rest left s k low c.in-Some.ensures ∙ or_right (s == k) (contains left k) on);
      same = λ q h.
          let failed = h s here.0 (inv.within s here.0 here.1) c.test.result c.test.ensures in
          one_fails q _ _ s c.in-Some.ensures (sym failed ∙ c.if-test.false) ∙ inv.same q h;
    }

pub returns : goal.returns
returns g c = λ q h.
    sym (sym (c.loop-square.invariant.same q h) ∙ ap (λ ms. list_any q ms) c.in_default.ensures.0)
