-- At each moment the clock was read for openings of a side S as often as S has moved, or once more. The invariant
-- (`OpenedOf`), which each act keeps: just as often, and once more while the move of S is awaited.
use Rattle.std.proofs.Common.{◌≡◌, ◌∙◌, ℕ, ◌+◌, ◌-◌, ◌≤◌, Bool, true, false, List, [], ◌∷◌, ◌++◌, length, length-append, refl, sym, ap, subst, arith}
use Rattle.chess_base.specs.{declared.man.Colour.Colour, declared.man.Colour.TheVariants.White, declared.man.Colour.TheVariants.Black, declared.man.Move.Move, Men.same_colour}
use Rattle.cecp_engine.specs.EngineLines.{LineKind}
use Rattle.chess_match.specs.{Acts.Act, Acts.awaits_line, Rules.Rules, laws.Laws.line_kind, laws.Laws.match_after}
use Rattle.chess_match.specs.Effects.{Match, Phase, Handshake, Setup, Opening, BeforeMove, AfterMove, Over, beginning, line_row, moved}
use Rattle.chess_match.proofs.shared.LineCases.{line_cases, offered_used, said_by, said_used}
use Rattle.chess_match_laws.specs.{OfActs.AtEachMoment, Rows.TurnsAreOpenedOnce, Rows.one_if, Rows.openings}
use Rattle.chess_match_laws.proofs.{Points.by_points, Silences.by_silence}

-- `n` is `made`, or one more
abbrev Bounds : ℕ → ℕ → Type 0
Bounds made n = (made ≤ n) × (n ≤ made + 1)

-- the invariant by phase: `n` is how often the turns of S were opened, and `made` how many moves it made
abbrev OpenedIn : Colour → Phase → ℕ → ℕ → Type 0
OpenedIn S (BeforeMove c opened) made n = n ≡ made + one_if (same_colour c S)
OpenedIn S (Over reason) made n = Bounds made n
OpenedIn S p made n = n ≡ made

-- the invariant of a match
abbrev OpenedOf : Colour → Match → ℕ → Type 0
OpenedOf S m n = OpenedIn S m.phase (length (m.seat S).used) n

-- ---- numbers

-- what the law asks for, if `n` is `made`; and (`by_one`) if it may be one more
equal_bounds : (made n : ℕ) → n ≡ made → Bounds made n
equal_bounds made n e = (omega (arith, e), omega (arith, e))

by_one : (made n : ℕ) (b : Bool) → n ≡ made + one_if b → Bounds made n
by_one made n true e = let f : n ≡ made + 1 = e in (omega (arith, f), omega (arith, f))
by_one made n false e = let f : n ≡ made + 0 = e in (omega (arith, f), omega (arith, f))

-- the match may end in any phase
to_over : (S : Colour) (p : Phase) (made n : ℕ) → OpenedIn S p made n → Bounds made n
to_over S (Handshake c) made n e = equal_bounds made n e
to_over S (Setup c) made n e = equal_bounds made n e
to_over S (Opening c) made n e = equal_bounds made n e
to_over S (BeforeMove c opened) made n e = by_one made n (same_colour c S) e
to_over S (AfterMove c) made n e = equal_bounds made n e
to_over S (Over reason) made n e = e

-- with one more used time there are as many as there were turns opened
one_longer : (us : List ℕ) (u n : ℕ) → n ≡ length us + 1 → n ≡ length (us ++ u ∷ [])
one_longer us u n e =
    let l : length (us ++ u ∷ []) ≡ length us + 1 = length-append us (u ∷ []) in omega (arith, l, e)

as_long : (us : List ℕ) (n : ℕ) → n ≡ length us + 0 → n ≡ length us
as_long us n e = omega (arith, e)

-- a move of C, whose turn was opened
moves_made : (C S : Colour) (move : Move) (used : ℕ) (m : Match) (n : ℕ)
    → n ≡ length (m.seat S).used + one_if (same_colour C S) → n ≡ length ((moved C move used m).seat S).used
moves_made White White move used m n e = one_longer (m.seat White).used used n e
moves_made Black Black move used m n e = one_longer (m.seat Black).used used n e
moves_made White Black move used m n e = as_long (m.seat Black).used n e
moves_made Black White move used m n e = as_long (m.seat White).used n e

more_opened : (made n a k : ℕ) → Bounds made (n + a + k) → Bounds made (n + (a + k))
more_opened made n a k (low, high) = (omega (arith, low), omega (arith, high))

none_opened : (made n : ℕ) → Bounds made n → Bounds made (n + 0)
none_opened made n (low, high) = (omega (arith, low), omega (arith, high))

from_none : (made k : ℕ) → Bounds made (0 + k) → Bounds made k
from_none made k (low, high) = (omega (arith, low), omega (arith, high))

opens_one : (made n a : ℕ) → n ≡ made → n + a ≡ made + a
opens_one made n a e = omega (arith, e)

-- ---- any line

module _ (r : Rules) (S : Colour) where
  -- any line keeps the invariant
  line : (C : Colour) (kind : LineKind) (moment : ℕ) (m : Match) (n : ℕ) → awaits_line m.phase C ≡ true
      → OpenedOf S m n → OpenedOf S (line_row r m.phase kind moment m).after n
  line C kind moment m n aw so_far =
      line_cases r C kind moment m (λ e. OpenedOf S e.after n) aw (λ since.
      let k : Match = record m { since = since } in record {
        handshake_stops = λ p reason count most w.
            subst (λ (i : ℕ). Bounds i n) (said k) (to_over S m.phase (length (m.seat S).used) n so_far);
        handshake_counts = λ p d few. subst (λ (i : ℕ). OpenedIn S m.phase i n) (said k) so_far;
        handshake_next = λ p s d. as_in (Handshake C) p ∙ said k;
        handshake_last = λ p s d. as_in (Handshake C) p ∙ said k;
        setup_counts = λ p pong few. so_far;
        setup_next = λ p s pong. as_in (Setup C) p;
        setup_last = λ p s pong v d. as_in (Setup C) p;
        setup_draws = λ p claim v d. to_over S m.phase (length (m.seat S).used) n so_far;
        setup_decides = λ p v e. to_over S m.phase (length (m.seat S).used) n so_far;
        stops = λ done reason w. to_over S m.phase (length (m.seat S).used) n so_far;
        counts = λ on none few. so_far;
        offers = λ on none own. subst (λ (i : ℕ). OpenedIn S m.phase i n)
            (sym (ap (λ (us : List ℕ). length us) (offered_used C S k))) so_far;
        plays = λ text move opened is p read room timely v d.
            moves_made C S move (moment - opened) k n (as_in (BeforeMove C opened) p);
        draws = λ text move opened claim is p read room timely v d.
            equal_bounds (length ((moved C move (moment - opened) k).seat S).used) n
            (moves_made C S move (moment - opened) k n (as_in (BeforeMove C opened) p));
        decides = λ text move opened v is p read room timely e.
            equal_bounds (length ((moved C move (moment - opened) k).seat S).used) n
            (moves_made C S move (moment - opened) k n (as_in (BeforeMove C opened) p));
        passes = λ p none. as_in (AfterMove C) p;
      })
    where
      as_in : (p : Phase) → m.phase ≡ p → OpenedIn S p (length (m.seat S).used) n
      as_in p e = subst (λ (q : Phase). OpenedIn S q (length (m.seat S).used) n) e so_far

      -- what C said uses no time
      said : (k : Match) → length (k.seat S).used ≡ length ((said_by C kind k).seat S).used
      said k = sym (ap (λ (us : List ℕ). length us) (said_used C S kind k))

pub turns_are_opened_once : AtEachMoment TurnsAreOpenedOnce
turns_are_opened_once r H K final g S =
    let Q : Match → List Act → Match → Type 0 =
    λ m H end. (n : ℕ) → OpenedOf S m n → Bounds (length (end.seat S).used) (n + openings S H) in
    let last : Match = match_after r beginning.after H in
    from_none (length (last.seat S).used) (openings S H) (by_points r (λ m due H end. Q m H end) (record {
      sends = λ m end b due H p. p;
      fails = λ m end b due H on q only same p n o. p n (to_over S m.phase (length (m.seat S).used) n o);
      fails_late = λ m end b due H over only same p. p;
      reads = λ m end c t x H aw q stays p n o. p n (line r S c (line_kind t) x m n aw o);
      opens = λ m end c x H o q p n so_far.
          let here : n ≡ length (m.seat S).used =
          subst (λ (y : Phase). OpenedIn S y (length (m.seat S).used) n) o so_far in
          more_opened (length (end.seat S).used) n (one_if (same_colour c S)) (openings S H)
          (p (n + one_if (same_colour c S)) (opens_one (length (m.seat S).used) n (one_if (same_colour c S)) here));
      silent = λ m end c x H aw limited q stays p n o. by_silence r m end c x H (λ m due. Q m H end)
          (λ reason w only same p. p n (to_over S m.phase (length (m.seat S).used) n o))
          (λ since p. p n o) stays p;
      output_ends = λ m end c H aw q only same p n o. p n (to_over S m.phase (length (m.seat S).used) n o);
      read_fails = λ m end c H aw q only same p n o. p n (to_over S m.phase (length (m.seat S).used) n o);
    }) H K final
    (λ m due q g n o. none_opened (length (m.seat S).used) n (to_over S m.phase (length (m.seat S).used) n o)) g 0
    refl)
