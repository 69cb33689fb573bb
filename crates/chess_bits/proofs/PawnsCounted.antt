-- A free pawn that neither promotes nor takes en passant has one legal move for each of four ways that is open to it:
-- one square ahead, two, a capture left or right (pawn_counted). So such pawns have as many together as the four sets
-- of pawns to which a way is open have squares (pawns_counted, by induction over the squares); and the sets that
-- `count_ordinary_pawns` computes are these (ways_are).
use mathlib.Core.Bool.{not-not, or-false}
use Rattle.std.proofs.Common.{◌≡◌, ℕ, zero, suc, ◌+◌, ◌-◌, ◌/◌, ◌<◌, ◌≤◌, inl, inr, Bool, true, false, not, ◌&&◌, ◌||◌, ◌==◌, cond, Option, Some, None, is_none, List, [], ◌∷◌, length, length-append, refl, sym, ap, ◌∙◌, arith}
use Rattle.std.specs.List.{filter, flat_map, range_with_len}
use Rattle.std.proofs.lemmas.Bool.{or_parts, cases_Bool, eqb-false, eqb-true, eq-eqb, ne_eqb, both_ways, false_from_ne_true}
use Rattle.std.proofs.lemmas.Bool.Decides.{nat_tests}
use Rattle.chess_base.specs.{declared.man.Colour.Colour, declared.man.Colour.TheVariants.White, declared.man.Colour.TheVariants.Black, declared.man.Kind.TheVariants.King, declared.man.Kind.TheVariants.Pawn, declared.setup.Setup.Setup, Attacks.could_capture, MoveList.move_of, Moves.is_legal, Moves.pawn_advances, Moves.pawn_captures, Sound.IsSound, Sound.no_pawn_on_end_ranks, shared.Parts.pawn_is_allowed}
use Rattle.chess_base.specs.Men.{Men, man_at, is_of, is_man, other, forward, pawn_rank}
use Rattle.chess_base.specs.Squares.{file, rank, is_at, squares}
use Rattle.chess_base.proofs.shared.Squares.{each_square-at}
use Rattle.chess_moves.specs.{shared.MovesBySquares.moves_between, shared.MovesBySquares.moves_from, Sets.contains, Sets.members}
use Rattle.chess_moves.proofs.shared.Members.{filter_none, filter_first, by_range}
use Rattle.chess_bits.specs.declared.table.Shape.TheVariants as shape
use Rattle.chess_bits.specs.ties.Goes.{goes, aims_at, goes_specially, IsFree, AreFree}
use Rattle.chess_bits.specs.ties.Shapes.{in_shape}
use Rattle.chess_bits.proofs.{Attackers.pawn_back, Freely.IsOrdinary, Freely.pawn_ordinary, Freely.free_between, Listed.none_there, OriginsOf.off_lowest, OriginsOf.on_board, Patterns.pawn_goes, Patterns.legal_goes, Reached.pawn_from, TargetsOf.man_told, TargetsOf.advances_is, TargetsOf.captures_is}

-- ---- sums

-- 1 if the test holds, otherwise 0
abbrev once : Bool → ℕ
once t = cond t 1 0

one_more : (q : ℕ → Bool) (a : ℕ) (xs : List ℕ) → length (filter q (a ∷ xs)) ≡ once (q a) + length (filter q xs)
one_more q a xs = elim (cases_Bool (q a)) [ inl kept ↦ rw kept (omega arith) | inr left ↦ rw left (omega arith) ]

-- if each member k of w has as many elements in g k as pass of the four tests on k, and other numbers pass none, the
-- members of w have as many together as numbers pass each test, added up
by_tests : {A : Type 0} (g : ℕ → List A) (w q r s t : ℕ → Bool) (n a : ℕ) → a + n ≤ 64
    → ((k : ℕ) → k < 64 → w k ≡ true → length (g k) ≡ once (q k) + once (r k) + once (s k) + once (t k))
    → ((k : ℕ) → k < 64 → w k ≡ false → (q k ≡ false) × (r k ≡ false) × (s k ≡ false) × (t k ≡ false))
    → length (flat_map g (filter w (range_with_len a n)))
    ≡ length (filter q (range_with_len a n)) + length (filter r (range_with_len a n))
    + length (filter s (range_with_len a n)) + length (filter t (range_with_len a n))
by_tests g w q r s t zero a fits here away = refl
by_tests g w q r s t (suc n) a fits here away =
    let rest = by_tests g w q r s t n (a + 1) (omega arith) here away in
    let qs = one_more q a (range_with_len (a + 1) n) in
    let rs = one_more r a (range_with_len (a + 1) n) in
    let ss = one_more s a (range_with_len (a + 1) n) in
    let ts = one_more t a (range_with_len (a + 1) n) in
    let more = length-append (g a) (flat_map g (filter w (range_with_len (a + 1) n))) in
    elim (cases_Bool (w a)) [
      | inl on ↦ let mine = here a (omega arith) on in rw on (omega (arith, rest, qs, rs, ss, ts, more, mine))
      | inr off ↦
          let none = away a (omega arith) off in
          let q0 : once (q a) ≡ 0 = ap once none.0 in
          let r0 : once (r a) ≡ 0 = ap once none.1 in
          let s0 : once (s a) ≡ 0 = ap once none.2 in
          let t0 : once (t a) ≡ 0 = ap once none.3 in
          rw off (omega (arith, rest, qs, rs, ss, ts, q0, r0, s0, t0))
    ]

all_kept : (xs : List ℕ) → filter (λ k. true) xs ≡ xs
all_kept [] = refl
all_kept (x ∷ xs) = ap (λ ys. x ∷ ys) (all_kept xs)

-- how many of the 64 squares are square n, if the test o holds: one, and none if it doesn't
alone : (o : Bool) (n : ℕ) → n < 64 → length (filter (λ k. o && (k == n)) (range_with_len 0 64)) ≡ once o
alone false n low = ap length (filter_none (λ k. false) 64 0 (λ k l m. refl))
alone true n low =
    ap length (filter_first (λ k. k == n) (λ k. false) n 64 0 (omega arith) (omega (arith, low)) (eq-eqb n n refl)
    (λ k l. ne_eqb k n (λ e. omega (arith, l, e))) (λ k l. sym (never (k == n))) (omega arith))
    ∙ ap (λ xs. suc (length xs)) (filter_none (λ k. false) 64 0 (λ k l m. refl))
  where
    never : (t : Bool) → (t && not t) ≡ false
    never true = refl
    never false = refl

pub summed : {a b c d e f g h : ℕ} → a ≡ e → b ≡ f → c ≡ g → d ≡ h → a + b + c + d ≡ e + f + g + h
summed p q r s = omega (arith, p, q, r, s)

-- ---- the squares to which an ordinary pawn may go

-- square a is off ranks 1 and 8, where no pawn may be, and off the last rank but one of colour c
abbrev Inside : Colour → ℕ → Type 0
Inside White a = (8 ≤ a) × (a < 48)
Inside Black a = (16 ≤ a) × (a < 64)

-- a pawn that is not on its last rank but one is `Inside`
inside : (men : Men) (c : Colour) (a : ℕ) → is_man c Pawn (man_at men a) ≡ true → pawn_is_allowed men a ≡ true → a < 64
    → (rank a ≡ pawn_rank (other c) → ⊥) → Inside c a
inside men White a man stands low off =
    (off_lowest men White a man stands, below_last (rank a) refl off (on_board men White a man stands low))
  where
    below_last : (r : ℕ) → a / 8 ≡ r → (r ≡ 6 → ⊥) → a + 8 < 64 → a < 48
    below_last r e six high = grind (arith, e, low, six, high)
inside men Black a man stands low off =
    let from = off_lowest men Black a man stands in
    (past_last (rank a) refl off from, low)
  where
    past_last : (r : ℕ) → a / 8 ≡ r → (r ≡ 1 → ⊥) → 8 ≤ a → 16 ≤ a
    past_last r e one from = grind (arith, e, one, from)

-- the four squares n, t, l and r are on the board, and no two of them are the same
record AreApart (n t l r : ℕ) : Type 0 where
  pub low_n : n < 64
  pub low_t : t < 64
  pub low_l : l < 64
  pub low_r : r < 64
  pub nt : n ≡ t → ⊥
  pub nl : n ≡ l → ⊥
  pub nr : n ≡ r → ⊥
  pub tl : t ≡ l → ⊥
  pub tr : t ≡ r → ⊥
  pub lr : l ≡ r → ⊥

-- for a pawn's square a that is `Inside`, the squares one and two ahead, and those left and right of the one ahead, are
-- four squares on the board
apart : (c : Colour) (a : ℕ) → Inside c a
    → AreApart (forward c a) (forward c (forward c a)) (forward c a - 1) (forward c a + 1)
apart White a i = let low = i.0 in let high = i.1 in grind arith
apart Black a i = let low = i.0 in let high = i.1 in grind arith

-- a pawn attacks left and right of the square ahead, but not past the a-file or the h-file
attacks_so : (men : Men) (c : Colour) (a b : ℕ) → Inside c a
    → could_capture men c Pawn a b
    ≡ ((not (file a == 0) && (b == forward c a - 1)) || (not (file a == 7) && (b == forward c a + 1)))
unfolding could_capture
attacks_so men White a b i = grind (arith, nat_tests, i.0, i.1)
attacks_so men Black a b i = grind (arith, nat_tests, i.0, i.1)

-- a pawn on k attacks t exactly if an enemy pawn on t would attack k
pub aims_back : (c : Colour) (k t : ℕ) → in_shape (shape.Pawn (other c)) t k ≡ in_shape (shape.Pawn c) k t
aims_back c k t = pawn_back [] c k t ∙ sym (pawn_from [] c k t)

-- where a pawn on a does not attack the target, it captures on b exactly if it attacks b and an enemy is there (e)
no_target : (men : Men) (c : Colour) (o : Option ℕ) (a b : ℕ) (e : Bool) → aims_at o c a ≡ false
    → (could_capture men c Pawn a b && (e || is_at o b)) ≡ (could_capture men c Pawn a b && e)
no_target men c None a b e off = ap (λ t. could_capture men c Pawn a b && t) (or-false e)
no_target men c (Some t) a b e off =
    elim (cases_Bool (t == b)) [
      | inl same ↦
          let miss : could_capture men c Pawn a b ≡ false =
          ap (λ s. could_capture men c Pawn a s) (sym (eqb-true t b same)) ∙ sym (pawn_from men c a t) ∙ off in
          rw miss refl
      | inr other ↦ rw other (ap (λ t. could_capture men c Pawn a b && t) (or-false e))
    ]

on_each : (f g x y e l r : Bool) → (x ≡ true → e ≡ l) → (y ≡ true → e ≡ r)
    → (((f && x) || (g && y)) && e) ≡ (((f && l) && x) || ((g && r) && y))
on_each f g true true e l r h k = rw (← h refl, ← k refl) (grind arith)
on_each f g true false e l r h k = rw (← h refl) (grind arith)
on_each f g false true e l r h k = rw (← k refl) (grind arith)
on_each f g false false e l r h k = grind arith

-- a pawn that does not attack the target captures just on the square ahead to the left, if an enemy is there, and on
-- the one ahead to the right, if an enemy is there
captures_so : (p : Setup) (a b : ℕ) → is_man p.side Pawn (man_at p.men a) ≡ true → aims_at p.target p.side a ≡ false
    → Inside p.side a
    → pawn_captures p (move_of a b None)
    ≡ (((not (file a == 0) && is_of (other p.side) (man_at p.men (forward p.side a - 1))) && (b == forward p.side a - 1))
    || ((not (file a == 7) && is_of (other p.side) (man_at p.men (forward p.side a + 1)))
    && (b == forward p.side a + 1)))
captures_so p a b pawn off i =
    sym (captures_is p a b pawn)
    ∙ no_target p.men p.side p.target a b (is_of (other p.side) (man_at p.men b)) off
    ∙ ap (λ t. t && is_of (other p.side) (man_at p.men b)) (attacks_so p.men p.side a b i)
    ∙ on_each (not (file a == 0)) (not (file a == 7)) (b == forward p.side a - 1) (b == forward p.side a + 1)
    (is_of (other p.side) (man_at p.men b)) (is_of (other p.side) (man_at p.men (forward p.side a - 1)))
    (is_of (other p.side) (man_at p.men (forward p.side a + 1)))
    (λ e. ap (λ s. is_of (other p.side) (man_at p.men s)) (eqb-true b (forward p.side a - 1) e))
    (λ e. ap (λ s. is_of (other p.side) (man_at p.men s)) (eqb-true b (forward p.side a + 1) e))

and_joined : (s r t x : Bool) → ((s && r) && (t && x)) ≡ (((s && r) && t) && x)
and_joined s r t x = grind arith

-- a pawn advances just one square if that is empty, and from home also two if both are
advances_so : (p : Setup) (a b : ℕ) → is_man p.side Pawn (man_at p.men a) ≡ true
    → pawn_advances p (move_of a b None)
    ≡ ((is_none (man_at p.men (forward p.side a)) && (b == forward p.side a))
    || (((is_none (man_at p.men (forward p.side a)) && (rank a == pawn_rank p.side))
    && is_none (man_at p.men (forward p.side (forward p.side a)))) && (b == forward p.side (forward p.side a))))
advances_so p a b pawn =
    advances_is p a b (forward p.side a) (forward p.side (forward p.side a)) pawn refl refl
    ∙ ap (λ t. (is_none (man_at p.men (forward p.side a)) && (b == forward p.side a)) || t)
    (and_joined (is_none (man_at p.men (forward p.side a))) (rank a == pawn_rank p.side)
    (is_none (man_at p.men (forward p.side (forward p.side a)))) (b == forward p.side (forward p.side a)))

-- ---- the moves of one

-- whether b is one of four squares to which a way is open (q, r, s, t) is counted as the sum over the four, since they
-- are apart
four_ways : (q r s t : Bool) (b n m l k : ℕ) → AreApart n m l k
    → once (((q && (b == n)) || (r && (b == m))) || ((s && (b == l)) || (t && (b == k))))
    ≡ once (q && (b == n)) + once (r && (b == m)) + once (s && (b == l)) + once (t && (b == k))
four_ways q r s t b n m l k are =
    grind (arith, nat_tests, are.nt, are.nl, are.nr, are.tl, are.tr, are.lr)

-- summed over all squares b, each of the four ways that is open counts one
four_alone : (q r s t : Bool) (n m l k : ℕ) → AreApart n m l k
    → length (filter (λ b. q && (b == n)) (range_with_len 0 64)) + length
    (filter (λ b. r && (b == m)) (range_with_len 0 64)) + length (filter (λ b. s && (b == l)) (range_with_len 0 64))
    + length (filter (λ b. t && (b == k)) (range_with_len 0 64)) ≡ once q + once r + once s + once t
four_alone q r s t n m l k are =
    summed (alone q n are.low_n) (alone r m are.low_t) (alone s l are.low_l) (alone t k are.low_r)

-- a free and ordinary pawn has one legal move to a square to which it advances or where it captures, otherwise none
between_counted : (p : Setup) (a b king : ℕ) → IsSound p → IsFree p a → is_man p.side Pawn (man_at p.men a) ≡ true
    → IsOrdinary p a → a < 64 → b < 64 → king < 64
    → ((k : ℕ) → k < 64 → is_man p.side King (man_at p.men k) ≡ (k == king))
    → length (moves_between p a b) ≡ once (pawn_advances p (move_of a b None) || pawn_captures p (move_of a b None))
between_counted p a b king sound free pawn ordinary low high there one =
    by (pawn_advances p (move_of a b None) || pawn_captures p (move_of a b None))
    (pawn_goes p a b _ (man_told p.side Pawn (man_at p.men a) pawn) refl refl low high)
  where
    by : (t : Bool) → goes p a b ≡ t → length (moves_between p a b) ≡ once t
    by true go = ap length (free_between p a b king sound free ordinary low high there one go)
    by false off = ap length (none_there p a b (λ k. false_from_ne_true (is_legal p (move_of a b k))
        (λ e. both_ways (goes p a b) off (legal_goes p (move_of a b k) e).0)))

-- the ways open to a pawn: one square ahead, two, and a capture to the left and to the right
abbrev pub one_ahead : Setup → ℕ → Bool
one_ahead p a = is_none (man_at p.men (forward p.side a))

abbrev pub two_ahead : Setup → ℕ → Bool
two_ahead p a = (one_ahead p a && (rank a == pawn_rank p.side)) && is_none (man_at p.men (forward p.side (forward p.side a)))

abbrev pub takes_left : Setup → ℕ → Bool
takes_left p a = not (file a == 0) && is_of (other p.side) (man_at p.men (forward p.side a - 1))

abbrev pub takes_right : Setup → ℕ → Bool
takes_right p a = not (file a == 7) && is_of (other p.side) (man_at p.men (forward p.side a + 1))

-- a pawn that may neither promote by its next move nor take en passant (`goes_specially`) is `Inside`
pub stands_inside : (p : Setup) (a : ℕ) → IsSound p → is_man p.side Pawn (man_at p.men a) ≡ true → a < 64
    → goes_specially p a ≡ false → Inside p.side a
unfolding no_pawn_on_end_ranks
stands_inside p a sound pawn low ordinary =
    inside p.men p.side a pawn (each_square-at _ sound.pawns a low) low
    (eqb-false (rank a) (pawn_rank (other p.side))
    (or_parts (aims_at p.target p.side a) (rank a == pawn_rank (other p.side)) ordinary).1)

-- a free pawn that may neither promote by its next move nor take en passant has as many legal moves as ways are open to
-- it
pub pawn_counted : (p : Setup) (a king : ℕ) → IsSound p → IsFree p a → is_man p.side Pawn (man_at p.men a) ≡ true
    → a < 64 → king < 64 → ((k : ℕ) → k < 64 → is_man p.side King (man_at p.men k) ≡ (k == king))
    → goes_specially p a ≡ false
    → length (moves_from p a)
    ≡ once (one_ahead p a) + once (two_ahead p a) + once (takes_left p a) + once (takes_right p a)
unfolding moves_from
pawn_counted p a king sound free pawn low there one ordinary =
    let neither = or_parts (aims_at p.target p.side a) (rank a == pawn_rank (other p.side)) ordinary in
    let is_ordinary = pawn_ordinary p a sound low pawn neither.0
    (eqb-false (rank a) (pawn_rank (other p.side)) neither.1) in
    let i = stands_inside p a sound pawn low ordinary in
    let are = apart p.side a i in
    let n = forward p.side a in
    let each : (b : ℕ) → b < 64 → true ≡ true → length (moves_between p a b)
    ≡ once (one_ahead p a && (b == n)) + once (two_ahead p a && (b == forward p.side n))
    + once (takes_left p a && (b == n - 1)) + once (takes_right p a && (b == n + 1)) = λ b high e.
    between_counted p a b king sound free pawn is_ordinary low high there one
    ∙ ap once (rw (advances_so p a b pawn, captures_so p a b pawn neither.0 i) refl)
    ∙ four_ways (one_ahead p a) (two_ahead p a) (takes_left p a) (takes_right p a) b n (forward p.side n) (n - 1) (n + 1)
    are in
    let sum = by_tests (λ b. moves_between p a b) (λ b. true) (λ b. one_ahead p a && (b == n))
    (λ b. two_ahead p a && (b == forward p.side n)) (λ b. takes_left p a && (b == n - 1))
    (λ b. takes_right p a && (b == n + 1)) 64 0 (omega arith) each (λ k l e. cc) in
    ap (λ xs. length (flat_map (λ b. moves_between p a b) xs)) (by_range ∙ sym (all_kept (range_with_len 0 64)))
    ∙ sum ∙ four_alone (one_ahead p a) (two_ahead p a) (takes_left p a) (takes_right p a) n (forward p.side n) (n - 1)
    (n + 1) are

-- ---- the moves of all

-- of the pawns w: q may go one square ahead, r two, s may capture to the left, t to the right
pub record AreWays (p : Setup) (w q r s t : ℕ) : Type 0 where
  pub ahead : (k : ℕ) → k < 64 → contains w k ≡ true → contains q k ≡ one_ahead p k
  pub double : (k : ℕ) → k < 64 → contains w k ≡ true → contains r k ≡ two_ahead p k
  pub left : (k : ℕ) → k < 64 → contains w k ≡ true → contains s k ≡ takes_left p k
  pub right : (k : ℕ) → k < 64 → contains w k ≡ true → contains t k ≡ takes_right p k
  pub none : (k : ℕ) → k < 64 → contains w k ≡ false
      → (contains q k ≡ false) × (contains r k ≡ false) × (contains s k ≡ false) × (contains t k ≡ false)

-- the legal moves of free pawns w that may neither promote nor take en passant are together as many as the four sets of
-- those to which a way is open have squares
pub pawns_counted : (p : Setup) (king w q r s t : ℕ) → IsSound p → king < 64
    → ((k : ℕ) → k < 64 → is_man p.side King (man_at p.men k) ≡ (k == king))
    → AreFree p Pawn w → ((k : ℕ) → k < 64 → contains w k ≡ true → goes_specially p k ≡ false) → AreWays p w q r s t
    → length (members q) + length (members r) + length (members s) + length (members t)
    ≡ length (flat_map (λ a. moves_from p a) (members w))
unfolding members squares
pawns_counted p king w q r s t sound there one free ordinary ways = sym (by_tests (λ a. moves_from p a) (λ k. contains w k)
    (λ k. contains q k) (λ k. contains r k) (λ k. contains s k) (λ k. contains t k) 64 0 (omega arith) each ways.none)
  where
    each : (k : ℕ) → k < 64 → contains w k ≡ true
        → length (moves_from p k) ≡ once (contains q k) + once (contains r k) + once (contains s k) + once (contains t k)
    each k low on =
        let man = free k low on in
        pawn_counted p k king sound man.1 man.0 low there one (ordinary k low on)
        ∙ rw (ways.ahead k low on, ways.double k low on, ways.left k low on, ways.right k low on) refl

at_least : (c : Colour) (a : ℕ) → Inside c a → (8 ≤ a) × (8 ≤ forward c a)
at_least White a i = (i.0, omega (arith, i.0))
at_least Black a i = (omega (arith, i.0), omega (arith, i.0))

-- the sets that `count_ordinary_pawns` computes for the pawns w: `full` are the occupied squares, `blockers` have a
-- piece right ahead, `farther` one two squares ahead, `homes` is the home rank, `lefts` and `rights` have one of
-- `enemies` to capture there; q steps once, and `again` are those of q at home, of which r step twice; s and t capture
pub record AreSets (p : Setup) (w full blockers farther homes enemies lefts rights q again r s t : ℕ) : Type 0 where
  pub all : (k : ℕ) → k < 64 → contains full k ≡ not (is_none (man_at p.men k))
  pub blocked : (k : ℕ) → k < 64 → 8 ≤ k → contains blockers k ≡ contains full (forward p.side k)
  pub further : (k : ℕ) → k < 64 → 8 ≤ k → contains farther k ≡ contains blockers (forward p.side k)
  pub home : (k : ℕ) → k < 64 → contains homes k ≡ (rank k == pawn_rank p.side)
  pub theirs : (k : ℕ) → k < 64 → contains enemies k ≡ is_of (other p.side) (man_at p.men k)
  pub from_left : (k : ℕ) → k < 64 → 8 ≤ k → forward p.side k < 64
      → contains lefts k ≡ (not (file k == 0) && contains enemies (forward p.side k - 1))
  pub from_right : (k : ℕ) → k < 64 → 8 ≤ k
      → contains rights k ≡ (not (file k == 7) && contains enemies (forward p.side k + 1))
  pub once : (k : ℕ) → k < 64 → contains q k ≡ (contains w k && not (contains blockers k))
  pub both : (k : ℕ) → contains again k ≡ (contains q k && contains homes k)
  pub twice : (k : ℕ) → k < 64 → contains r k ≡ (contains again k && not (contains farther k))
  pub left : (k : ℕ) → contains s k ≡ (contains w k && contains lefts k)
  pub right : (k : ℕ) → contains t k ≡ (contains w k && contains rights k)

-- the sets q, r, s and t that `count_ordinary_pawns` computes are those of the pawns to which each way is open
pub ways_are : (p : Setup) (w full blockers farther homes enemies lefts rights q again r s t : ℕ) → IsSound p
    → AreFree p Pawn w → ((k : ℕ) → k < 64 → contains w k ≡ true → goes_specially p k ≡ false)
    → AreSets p w full blockers farther homes enemies lefts rights q again r s t → AreWays p w q r s t
ways_are p w full blockers farther homes enemies lefts rights q again r s t sound free ordinary are = record {
  ahead = ahead;
  double = λ k low on.
      let i = stands k low on in
      let far = at_least p.side k i in
      let on_board = apart p.side k i in
      are.twice k low
      ∙ rw (
        are.both k,
        ahead k low on,
        are.home k low,
        are.further k low far.0,
        are.blocked (forward p.side k) on_board.low_n far.1,
        are.all (forward p.side (forward p.side k)) on_board.low_t,
        not-not (is_none (man_at p.men (forward p.side (forward p.side k)))),
      ) refl;
  left = λ k low on.
      let i = stands k low on in
      let on_board = apart p.side k i in
      are.left k
      ∙ rw (
        on,
        are.from_left k low (at_least p.side k i).0 on_board.low_n,
        are.theirs (forward p.side k - 1) on_board.low_l,
      ) refl;
  right = λ k low on.
      let i = stands k low on in
      let on_board = apart p.side k i in
      are.right k
      ∙ rw (
        on,
        are.from_right k low (at_least p.side k i).0,
        are.theirs (forward p.side k + 1) on_board.low_r,
      ) refl;
  none = λ k low off.
      let q0 : contains q k ≡ false = are.once k low ∙ ap (λ x. x && not (contains blockers k)) off in
      let both0 : contains again k ≡ false = are.both k ∙ ap (λ x. x && contains homes k) q0 in (
        q0,
        are.twice k low ∙ ap (λ x. x && not (contains farther k)) both0,
        are.left k ∙ ap (λ x. x && contains lefts k) off,
        are.right k ∙ ap (λ x. x && contains rights k) off,
      );
}
  where
    stands : (k : ℕ) → k < 64 → contains w k ≡ true → Inside p.side k
    stands k low on = stands_inside p k sound (free k low on).0 low (ordinary k low on)

    ahead : (k : ℕ) → k < 64 → contains w k ≡ true → contains q k ≡ one_ahead p k
    ahead k low on =
        let i = stands k low on in
        let on_board = apart p.side k i in
        are.once k low
        ∙ rw (
          on,
          are.blocked k low (at_least p.side k i).0,
          are.all (forward p.side k) on_board.low_n,
          not-not (is_none (man_at p.men (forward p.side k))),
        ) refl
