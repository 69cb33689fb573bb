-- No clock underflows: what a side has left and what its moves took add up to what it was given, since they took no
-- more than that (`AreInTime`). Each act keeps this: a move is played only in time, and after more moves no less time
-- is given.
use Rattle.std.proofs.Common.{◌≡◌, ℕ, ◌+◌, ◌-◌, ◌≤◌, Bool, true, false, List, [], ◌∷◌, ◌++◌, length, length-append, refl, subst, arith, ap, ◌∙◌, zero-add, if◌then◌else◌, sum}
use Rattle.chess_base.specs.{declared.man.Colour.Colour, declared.man.Move.Move, Men.same_colour}
use Rattle.chess_base.proofs.shared.Men.{same_colour-true}
use Rattle.cecp_engine.specs.{EngineLines.LineKind, Levels.LevelSeen, Levels.allotted}
use Rattle.chess_match.specs.{laws.Laws.line_kind, laws.Laws.match_after, Acts.awaits_line, Events.Silent, Rules.Rules}
use Rattle.cecp_engine.proofs.shared.Levels.{allotted_grows}
use Rattle.chess_match.specs.Effects.{Match, beginning, clock, effect, line_row, moved}
use Rattle.chess_match_laws.specs.OfActs.{AtEachMoment, ClocksDoNotUnderflow}
use Rattle.std.proofs.lemmas.List.Sums.{sum_by-append}
use Rattle.chess_match.proofs.shared.LineCases.{line_cases, said_by, silence_cases, offered_used, said_used}
use Rattle.chess_match_laws.proofs.Points.{by_points, moved_used}

pub sum-snoc : (xs : List ℕ) (x : ℕ) → sum (xs ++ x ∷ []) ≡ sum xs + x
sum-snoc xs x = sum_by-append (λ (n : ℕ). n) xs (x ∷ []) ∙ ap (λ n. sum xs + n) (zero-add x)

-- moves that took these times took no more than the time control gives after as many moves
abbrev InTime : LevelSeen → List ℕ → Type 0
InTime level used = sum used ≤ allotted level (length used)

-- neither side used more than it was given
abbrev AreInTime : Rules → Match → Type 0
AreInTime r m = (C : Colour) → InTime (r.level C) (m.seat C).used

-- one move more, which took no more than was left
used_more : (level : LevelSeen) (xs : List ℕ) (x : ℕ) → InTime level xs
    → x ≤ allotted level (length xs) - sum xs → InTime level (xs ++ x ∷ [])
used_more level xs x w timely =
    let grows : allotted level (length xs) ≤ allotted level (length xs + 1) = allotted_grows level (length xs) in
    rw (sum-snoc xs x, length-append xs (x ∷ [])) (omega (arith, grows, w, timely))

-- a move of S in time keeps `AreInTime`, said of each side C
played : (r : Rules) (S C : Colour) (move : Move) (used : ℕ) (m : Match) → used ≤ clock r m S → AreInTime r m
    → InTime (r.level C) ((moved S move used m).seat C).used
played r S C move used m timely w = rw (moved_used S C move used m) (at (same_colour S C) (same_colour-true S C))
  where
    at : (b : Bool) → (b ≡ true → S ≡ C)
        → InTime (r.level C) (if b then (m.seat C).used ++ used ∷ [] else (m.seat C).used)
    at true e = let same : S ≡ C = e refl in
        used_more (r.level C) (m.seat C).used used (w C) (subst (λ (x : Colour). used ≤ clock r m x) same timely)
    at false e = w C

-- any line keeps `AreInTime`
line_in_time : (r : Rules) (S : Colour) (kind : LineKind) (moment : ℕ) (m : Match) → awaits_line m.phase S ≡ true
    → AreInTime r m → AreInTime r (line_row r m.phase kind moment m).after
line_in_time r S kind moment m aw w = line_cases r S kind moment m (λ e. AreInTime r e.after) aw (λ since. record {
  handshake_stops = λ p reason c most n. said;
  handshake_counts = λ p d few. said;
  handshake_next = λ p s d. said;
  handshake_last = λ p s d. said;
  setup_counts = λ p pong few. w;
  setup_next = λ p s pong. w;
  setup_last = λ p s pong v d. w;
  setup_draws = λ p claim v d. w;
  setup_decides = λ p v e. w;
  stops = λ g reason n. w;
  counts = λ on none few. w;
  offers = λ on none own C. rw (offered_used S C m) (w C);
  plays = λ text move opened is p read room timely verdict d C. played r S C move (moment - opened) m timely w;
  draws = λ text move opened claim is p read room timely verdict d C. played r S C move (moment - opened) m timely w;
  decides = λ text move opened v is p read room timely verdict C. played r S C move (moment - opened) m timely w;
  passes = λ p none. w;
})
  where
    said : (C : Colour) → InTime (r.level C) ((said_by S kind m).seat C).used
    said C = rw (said_used S C kind m) (w C)

-- a silence keeps `AreInTime`
silent_in_time : (r : Rules) (S : Colour) (moment : ℕ) (m : Match) → AreInTime r m
    → AreInTime r (effect r m (Silent S moment)).after
silent_in_time r S moment m w = silence_cases r S moment m (λ e. AreInTime r e.after) (record {
  stops = λ reason n. w;
  goes_on = λ since. w;
})

pub clocks_do_not_underflow : AtEachMoment ClocksDoNotUnderflow
clocks_do_not_underflow r H K final g S =
    let m : Match = match_after r beginning.after H in
    let w : AreInTime r m = by_points r (λ m due H n. AreInTime r m → AreInTime r n) (record {
      sends = λ m n b due H p. p;
      fails = λ m n b due H on q s u p. p;
      fails_late = λ m n b due H o s u p. p;
      reads = λ m n S t x H aw q s p w. p (line_in_time r S (line_kind t) x m aw w);
      opens = λ m n S x H o q p. p;
      silent = λ m n S x H aw limited q s p w. p (silent_in_time r S x m w);
      output_ends = λ m n S H aw q s u p. p;
      read_fails = λ m n S H aw q s u p. p;
    }) H K final (λ m due q f w. w) g (λ C. omega arith) in
    sums (allotted (r.level S) (length (m.seat S).used)) (sum (m.seat S).used) (w S)
  where
    sums : (given used : ℕ) → used ≤ given → given - used + used ≡ given
    sums given used h = omega (arith, h)
