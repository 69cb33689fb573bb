-- At each moment a match has read at most 22,000 + 10,002 * (limit + 1) lines of both engines together. The invariant
-- (`AreFew`), which each act keeps, bounds the lines read so far by the phase, the lines counted in it, the moves
-- played and the open offer.
use Rattle.std.proofs.Common.{◌≡◌, ℕ, ◌+◌, ◌*◌, ◌≤◌, ◌<◌, Bool, true, false, List, [], ◌∷◌, ◌++◌, length, length-append, refl, subst, arith, Option}
use Rattle.chess_base.specs.{declared.man.Colour.Colour, declared.man.Colour.TheVariants.White, declared.man.Colour.TheVariants.Black, Men.same_colour, Options.list_if}
use Rattle.cecp_engine.specs.EngineLines.{LineKind}
use Rattle.chess_match.specs.{Acts.Act, Acts.awaits_line, laws.Laws.lines_read, laws.Laws.line_kind, Events.Silent, Rules.Rules}
use Rattle.chess_match.specs.Effects.{Match, Phase, Handshake, Setup, Opening, BeforeMove, AfterMove, Over, effect, line_row}
use Rattle.chess_match_laws.specs.OfActs.{AtEachMoment, LinesAreFew}
use Rattle.chess_match.proofs.shared.LineCases.{line_cases, silence_cases}
use Rattle.chess_match_laws.proofs.Points.{by_points}

abbrev one_if : Bool → ℕ
one_if true = 1
one_if false = 0

-- in a match in this phase `k`, the number of lines read so far, is at most this, if `count` lines were counted in the
-- phase and `n` moves were played; `offers` says which sides' offers are open, since an offer is not counted
abbrev AreFew : ℕ → ℕ → Phase → ℕ → ℕ → (Colour → Bool) → Type 0
AreFew limit k (Handshake White) count n offers = (k ≤ count) × (count < 1000) × (n ≡ 0)
AreFew limit k (Handshake Black) count n offers = (k ≤ 1000 + count) × (count < 1000) × (n ≡ 0)
AreFew limit k (Setup White) count n offers = (k ≤ 2000 + count) × (count < 10000) × (n ≡ 0)
AreFew limit k (Setup Black) count n offers = (k ≤ 12000 + count) × (count < 10000) × (n ≡ 0)
AreFew limit k (Opening c) count n offers = (k ≤ 22000 + 10002 * n) × (count < 10000) × (n ≤ limit)
AreFew limit k (BeforeMove c opened) count n offers = (k ≤ 22000 + 10002 * n + count + one_if (offers c))
    × (count < 10000) × (n ≤ limit)
AreFew limit k (AfterMove c) count n offers = (k + 10001 ≤ 22000 + 10002 * n + count + one_if (offers c))
    × (count < 10000) × (n ≤ limit)
AreFew limit k (Over reason) count n offers = k ≤ 22000 + 10002 * (limit + 1)

-- `AreFew` of a match, as if it were in the phase `p`
abbrev FewIn : Rules → ℕ → Phase → Match → Type 0
FewIn r k p m = AreFew r.limit k p m.count (length m.played) (λ c. (m.seat c).offers)

-- `AreFew` of a match
abbrev Few : Rules → ℕ → Match → Type 0
Few r k m = FewIn r k m.phase m

at_most_one : (b : Bool) → one_if b ≤ 1
at_most_one true = omega arith
at_most_one false = omega arith

-- a match that meets the invariant has had at most as many lines as the law says
few_over : (r : Rules) (k : ℕ) (m : Match) → Few r k m → k ≤ 22000 + 10002 * (r.limit + 1)
few_over r k m w = grind (arith, at_most_one (m.seat White).offers, at_most_one (m.seat Black).offers)

-- any line, which is one more, keeps the invariant
lines : (r : Rules) (k : ℕ) (S : Colour) (kind : LineKind) (moment : ℕ) (m : Match) → awaits_line m.phase S ≡ true
    → Few r k m → Few r (k + 1) (line_row r m.phase kind moment m).after
lines r k S kind moment m aw w = line_cases r S kind moment m (λ e. Few r (k + 1) e.after) aw (λ since. record {
  handshake_stops = λ p reason c most n. grind (arith, p, w);
  handshake_counts = λ p d few. grind (arith, p, w, few);
  handshake_next = λ p s d. grind (arith, p, s, w);
  handshake_last = λ p s d. grind (arith, p, s, w);
  setup_counts = λ p pong few. grind (arith, p, w, few);
  setup_next = λ p s pong. grind (arith, p, s, w);
  setup_last = λ p s pong v d. grind (arith, p, s, w);
  setup_draws = λ p claim v d. stopped;
  setup_decides = λ p v e. stopped;
  stops = λ g reason n. stopped;
  counts = λ on none few. grind (arith, on, w, few);
  offers = λ on none own. grind (arith, on, aw, w, own);
  plays = λ text move opened is p read room timely verdict d.
      grind (arith, p, w, room, length-append m.played (move ∷ []));
  draws = λ text move opened claim is p read room timely verdict d. stopped;
  decides = λ text move opened v is p read room timely verdict. stopped;
  passes = λ p none. grind (arith, p, w, at_most_one (m.seat S).offers);
})
  where
    stopped : k + 1 ≤ 22000 + 10002 * (r.limit + 1)
    stopped = grind (arith, aw, w, at_most_one (m.seat White).offers, at_most_one (m.seat Black).offers)

-- a silence is no line
silent_few : (r : Rules) (k : ℕ) (S : Colour) (moment : ℕ) (m : Match) → Few r k m
    → Few r k (effect r m (Silent S moment)).after
silent_few r k S moment m w = silence_cases r S moment m (λ e. Few r k e.after) (record {
  stops = λ reason n. few_over r k m w;
  goes_on = λ since. w;
})

-- the moment that the clock shows at the end of an opening keeps the bound (`FewIn`)
opened : (r : Rules) (k : ℕ) (S : Colour) (moment : ℕ) (m : Match) → FewIn r k (Opening S) m
    → FewIn r k (BeforeMove S moment) m
opened r k S moment m h1 = grind arith

-- a line of S is one more, whichever side's list has it
more_lines : (S : Colour) (t : Option (List ℕ)) (xs ys : List (Option (List ℕ))) (k n : ℕ)
    → k + 1 + length xs + length ys ≤ n
    → k + length (list_if (same_colour S White) (t ∷ []) ++ xs) + length (list_if (same_colour S Black) (t ∷ []) ++ ys)
    ≤ n
more_lines White t xs ys k n h = omega (arith, h)
more_lines Black t xs ys k n h = omega (arith, h)

pub lines_are_few : AtEachMoment LinesAreFew
lines_are_few r H K final g =
    let most : ℕ = 22000 + 10002 * (r.limit + 1) in
    let Q : Match → List Act → Type 0 =
    λ m H. (k : ℕ) → Few r k m → k + length (lines_read White H) + length (lines_read Black H) ≤ most in
    let h : 0 + length (lines_read White H) + length (lines_read Black H) ≤ most =
    by_points r (λ m due H n. Q m H) (record {
      sends = λ m n b due H p. p;
      fails = λ m n b due H on q s u p k w. p k (few_over r k m w);
      fails_late = λ m n b due H o s u p. p;
      reads = λ m n S t x H aw q s p k w. more_lines S t (lines_read White H) (lines_read Black H) k most
          (p (k + 1) (lines r k S (line_kind t) x m aw w));
      opens = λ m n S x H o q p k w. p k (opened r k S x m (subst (λ (y : Phase). FewIn r k y m) o w));
      silent = λ m n S x H aw limited q s p k w. p k (silent_few r k S x m w);
      output_ends = λ m n S H aw q s u p k w. p k (few_over r k m w);
      read_fails = λ m n S H aw q s u p k w. p k (few_over r k m w);
    }) H K final (λ m due q f k w. let l = few_over r k m w in omega (arith, l)) g 0
    (omega arith, omega arith, refl) in omega (arith, h)
