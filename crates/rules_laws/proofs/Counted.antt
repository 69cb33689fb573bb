-- The position is there for the n-th time (IsThere) exactly if repetition_count is at least n (there, counted): a
-- rising list of indices of positions that are the same is no longer than their count (no_more). The last n half-moves
-- were quiet (IsQuietFor) exactly if the clock is at least n (clocks_count_quiet_moves), by induction over the moves.
-- So ends and claims are stated without count and clock (counting_ends). A move raises the counters up to their limit
-- (counters_stop).
use Rattle.std.proofs.Common.{◌≡◌, ℕ, zero, suc, ◌+◌, ◌-◌, ◌<◌, ◌≤◌, min, Bool, true, false, cond, List, [], ◌∷◌, length, get_or, Some, None, refl, sym, ap, ◌∙◌, arith, nat_le, inl, inr, count_by, subst, ◌⊎◌}
use Rattle.std.proofs.lemmas.Bool.{cases_Bool, cases_eq, both_ways, leb-true, le-leb, or_parts, or_from}
use Rattle.std.proofs.lemmas.List.Sums.{sum_by-cons}
use Rattle.std.specs.List.{AllPairs, AllByRecursion, slice_get}
use Rattle.chess_base.specs.{declared.man.Colour.Colour, declared.man.Colour.TheVariants.White, declared.man.Colour.TheVariants.Black, ByColour.by_colour, declared.man.Kind.TheVariants.Pawn, declared.man.Move.Move, declared.setup.Setup.Setup, Attacks.is_in_check, Moves.after, Moves.halfmove_after, Moves.resets_clock}
use Rattle.chess_base.specs.Men.{man_at, is_man, is_of, other}
use Rattle.chess_base.proofs.shared.Captures.{resets_clock_is}
use Rattle.chess_game.specs.{declared.verdicts.Verdict.TheVariants.FivefoldRepetition, declared.verdicts.Verdict.TheVariants.SeventyFiveMoves, Ends.has_insufficient_material, Ends.verdict, Line.positions_of, Line.position_after, Same.is_same_position, Same.repetition_count}
use Rattle.rules_laws.specs.Endings.{position_at, IsThere, IsQuiet, IsQuietFor, ClocksCountQuietMoves, CountersStop, CountingEnds}
use Rattle.rules_laws.proofs.NoMove.{judged, judged_at, has_none}

-- ---- numbers that rise, from k on

-- each number of the list is above the one before it, and the first is at least k
abbrev Rises : ℕ → List ℕ → Type 0
Rises k [] = Unit {0}
Rises k (t ∷ ts) = (k ≤ t) × Rises (suc t) ts

lower : (k : ℕ) (ts : List ℕ) → Rises (suc k) ts → Rises k ts
lower k [] h = tt
lower k (t ∷ ts) h = (let l = h.0 in omega (arith, l), h.1)

earlier : (a b : ℕ) (ts : List ℕ) → a ≤ b → Rises b ts → Rises a ts
earlier a b [] l h = tt
earlier a b (u ∷ us) l h = (let m = h.0 in omega (arith, l, m), h.1)

tail_pairs : (t : ℕ) (ts : List ℕ) → AllPairs (λ j k. j < k) (t ∷ ts) → AllPairs (λ j k. j < k) ts
tail_pairs t ts h i j d l m = h (suc i) (suc j) d (omega (arith, l)) (omega (arith, m))

-- the recursive form `Rises` from the pairwise form `AllPairs` that IsThere has; pairs_of is the other direction
rises : (k t : ℕ) (ts : List ℕ) → k ≤ t → AllPairs (λ j k. j < k) (t ∷ ts) → Rises k (t ∷ ts)
rises k t [] h p = (h, tt)
rises k t (u ∷ us) h p =
    let next : t < u = p 0 1 0 (omega arith) (omega arith) in
    (h, rises (suc t) u us (omega (arith, next)) (tail_pairs t (u ∷ us) p))

rises_of : (ts : List ℕ) → AllPairs (λ j k. j < k) ts → Rises 0 ts
rises_of [] p = tt
rises_of (t ∷ ts) p = rises 0 t ts (omega arith) p

-- a number at an index of the list is at least k
from_k : (k : ℕ) (ts : List ℕ) (j d : ℕ) → Rises k ts → j < length ts → k ≤ get_or ts j d
from_k k [] j d h l = absurd (omega (arith, l))
from_k k (t ∷ ts) zero d h l = h.0
from_k k (t ∷ ts) (suc j) d h l =
    let more : suc t ≤ get_or ts j d = from_k (suc t) ts j d h.1 (omega (arith, l)) in
    let first = h.0 in omega (arith, more, first)

-- the pairwise form from the recursive one
pairs_of : (k : ℕ) (ts : List ℕ) → Rises k ts → AllPairs (λ j k. j < k) ts
pairs_of k [] h i j d l m = absurd (omega (arith, m))
pairs_of k (t ∷ ts) h zero zero d l m = absurd (omega (arith, l))
pairs_of k (t ∷ ts) h zero (suc j) d l m =
    let more : suc t ≤ get_or ts j d = from_k (suc t) ts j d h.1 (omega (arith, m)) in omega (arith, more)
pairs_of k (t ∷ ts) h (suc i) zero d l m = absurd (omega (arith, l))
pairs_of k (t ∷ ts) h (suc i) (suc j) d l m = pairs_of (suc t) ts h.1 i j d (omega (arith, l)) (omega (arith, m))

-- ---- where elements pass a test

abbrev one_if : Bool → ℕ
one_if b = cond b 1 0

count-cons : {A : Type 0} (q : A → Bool) (x : A) (xs : List A) → count_by q (x ∷ xs) ≡ one_if (q x) + count_by q xs
count-cons q x xs = sum_by-cons (λ y. one_if (q y)) x xs

-- the indices of the elements that pass the test q, where the first element has the index k
numbers : {A : Type 0} → (A → Bool) → List A → ℕ → List ℕ
numbers q [] k = []
numbers q (x ∷ xs) k = cond (q x) (k ∷ numbers q xs (suc k)) (numbers q xs (suc k))

length-numbers : {A : Type 0} (q : A → Bool) (xs : List A) (k : ℕ) → length (numbers q xs k) ≡ count_by q xs
unfolding numbers
length-numbers q [] k = refl
length-numbers q (x ∷ xs) k =
    elim (cases_Bool (q x)) [
      | inl on ↦ let more = length-numbers q xs (suc k) in let c = count-cons q x xs in rw (c, on) (omega (arith, more))
      | inr off ↦ let more = length-numbers q xs (suc k) in let c = count-cons q x xs in rw (c, off) (omega (arith, more))
    ]

rises-numbers : {A : Type 0} (q : A → Bool) (xs : List A) (k : ℕ) → Rises k (numbers q xs k)
unfolding numbers
rises-numbers q [] k = tt
rises-numbers q (x ∷ xs) k =
    elim (cases_Bool (q x)) [
      | inl on ↦ rw on (omega arith, rises-numbers q xs (suc k))
      | inr off ↦ rw off (lower k (numbers q xs (suc k)) (rises-numbers q xs (suc k)))
    ]

-- P holds of each such index, if it holds of the index of each element that passes
each-numbers : {A : Type 0} (q : A → Bool) (P : ℕ → Type 0) (xs : List A) (k : ℕ) (d : A)
    → ((i : ℕ) → i < length xs → q (get_or xs i d) ≡ true → P (k + i)) → AllByRecursion P (numbers q xs k)
unfolding numbers
each-numbers q P [] k d h = tt
each-numbers q P (x ∷ xs) k d h =
    let rest : AllByRecursion P (numbers q xs (suc k)) =
    each-numbers q P xs (suc k) d (λ i l e. subst P (moved k i) (h (suc i) (omega (arith, l)) e)) in
    elim (cases_Bool (q x)) [
      | inl on ↦ rw on (subst P (at_first k) (h 0 (omega arith) on), rest)
      | inr off ↦ rw off rest
    ]
  where
    moved : (k i : ℕ) → k + suc i ≡ suc k + i
    moved k i = omega arith

    at_first : (k : ℕ) → k + 0 ≡ k
    at_first k = omega arith

-- a rising list of indices of elements that pass is no longer than their count (no_more); j is such an index, where the
-- first element has the index k
abbrev Passes : {A : Type 0} → (A → Bool) → List A → ℕ → A → ℕ → Type 0
Passes q xs k d j = (j < k + length xs) × (q (get_or xs (j - k) d) ≡ true)

-- the same indices fit the list without its first element, if they are all above the index of that element
shifted : {A : Type 0} (q : A → Bool) (x : A) (xs : List A) (k : ℕ) (d : A) (ts : List ℕ) → Rises (suc k) ts
    → AllByRecursion (Passes q (x ∷ xs) k d) ts → AllByRecursion (Passes q xs (suc k) d) ts
shifted q x xs k d [] r h = tt
shifted q x xs k d (t ∷ ts) r h =
    let above = r.0 in
    let apart : t - k ≡ suc (t - suc k) = omega (arith, above) in
    let passes : q (get_or (x ∷ xs) (suc (t - suc k)) d) ≡ true =
    subst (λ (i : ℕ). q (get_or (x ∷ xs) i d) ≡ true) apart h.0.1 in
    let l = h.0.0 in
    ((omega (arith, l), passes), shifted q x xs k d ts (earlier (suc k) (suc t) ts (omega (arith, above)) r.1) h.1)

no_more : {A : Type 0} (q : A → Bool) (xs : List A) (k : ℕ) (d : A) (ts : List ℕ) → Rises k ts
    → AllByRecursion (Passes q xs k d) ts → length ts ≤ count_by q xs
no_more q xs k d [] r h = omega arith
no_more q [] k d (t ∷ ts) r h = let l = h.0.0 in let m = r.0 in absurd (omega (arith, l, m))
no_more q (x ∷ xs) k d (t ∷ ts) r h =
    let c = count-cons q x xs in
    elim (cases_eq t k) [
      | inl first ↦
          let r' : Rises (suc k) ts = subst (λ (n : ℕ). Rises (suc n) ts) first r.1 in
          let more = no_more q xs (suc k) d ts r' (shifted q x xs k d ts r' h.1) in
          let on : q x ≡ true = subst (λ (n : ℕ). q (get_or (x ∷ xs) n d) ≡ true) (none_left t k first) h.0.1 in
          let one : one_if (q x) ≡ 1 = rw on refl in
          omega (arith, c, more, one)
      | inr later ↦
          let m = r.0 in
          let r' : Rises (suc k) (t ∷ ts) = (omega (arith, m, later), r.1) in
          let more = no_more q xs (suc k) d (t ∷ ts) r' (shifted q x xs k d (t ∷ ts) r' h) in
          omega (arith, c, more)
    ]
  where
    none_left : (t k : ℕ) → t ≡ k → t - k ≡ 0
    none_left t k e = omega (arith, e)

-- ---- positions of a game

length-positions : (start : Setup) (ms : List Move) → length (positions_of start ms) ≡ suc (length ms)
length-positions start [] = refl
length-positions start (m ∷ ms) = ap suc (length-positions (after start m) ms)

-- the k-th of a game's positions is the position after its first k moves
position-is : (start : Setup) (ms : List Move) (k : ℕ) (d : Setup) → k ≤ length ms
    → get_or (positions_of start ms) k d ≡ position_at start ms k
position-is start [] zero d h = refl
position-is start [] (suc k) d h = absurd (omega (arith, h))
position-is start (m ∷ ms) zero d h = refl
position-is start (m ∷ ms) (suc k) d h = position-is (after start m) ms k d (omega (arith, h))

-- p is the same position as the game's present one
abbrev is_now : Setup → List Move → Setup → Bool
is_now start ms p = is_same_position p (position_after start ms)

-- from the count: the indices of the positions that are the present one are the rising numbers that are asked for
pub there : (n : ℕ) (start : Setup) (ms : List Move) → n ≤ repetition_count start ms → IsThere n start ms
unfolding repetition_count
there n start ms h =
    let q = is_now start ms in
    let ps = positions_of start ms in
    let len = length-positions start ms in
    let count = length-numbers q ps 0 in
    record {
      times = numbers q ps 0;
      many = omega (arith, h, count);
      rising = pairs_of 0 (numbers q ps 0) (rises-numbers q ps 0);
      same = each-numbers q (λ k. (k ≤ length ms) × (q (position_at start ms k) ≡ true)) ps 0 start
          (λ i l e. let m : i ≤ length ms = omega (arith, l, len) in
          subst (λ k. (k ≤ length ms) × (q (position_at start ms k) ≡ true)) (from_0 i)
          (m, ap q (sym (position-is start ms i start m)) ∙ e));
    }
  where
    from_0 : (i : ℕ) → i ≡ 0 + i
    from_0 i = omega arith

-- the numbers that IsThere gives are indices of positions that are the present one
passing : (start : Setup) (ms : List Move) (ts : List ℕ)
    → AllByRecursion (λ k. (k ≤ length ms) × (is_now start ms (position_at start ms k) ≡ true)) ts
    → AllByRecursion (Passes (is_now start ms) (positions_of start ms) 0 start) ts
passing start ms [] h = tt
passing start ms (t ∷ ts) h =
    let len = length-positions start ms in
    let l = h.0.0 in
    let from_0 : t - 0 ≡ t = omega arith in
    let at : get_or (positions_of start ms) (t - 0) start ≡ position_at start ms t =
    ap (λ (i : ℕ). get_or (positions_of start ms) i start) from_0 ∙ position-is start ms t start l in
    ((omega (arith, l, len), ap (is_now start ms) at ∙ h.0.1), passing start ms ts h.1)

-- from such numbers: they are no more than the count (no_more)
pub counted : (n : ℕ) (start : Setup) (ms : List Move) → IsThere n start ms → n ≤ repetition_count start ms
unfolding repetition_count
counted n start ms h =
    let few = no_more (is_now start ms) (positions_of start ms) 0 start h.times (rises_of h.times h.rising)
    (passing start ms h.times h.same) in
    let many = h.many in omega (arith, few, many)

-- ---- the halfmove clock

quiet_of : (p : Setup) (m : Move) → resets_clock p m ≡ false → IsQuiet p m
quiet_of p m e =
    let parts = or_parts (is_man p.side Pawn (man_at p.men m.from)) (is_of (other p.side) (man_at p.men m.to))
    (sym (resets_clock_is p m) ∙ e) in
    record { pawn = parts.0; capture = parts.1 }

not_reset : (p : Setup) (m : Move) → IsQuiet p m → resets_clock p m ≡ false
not_reset p m h = resets_clock_is p m ∙ or_from _ _ h.pawn h.capture

clock_reset : (p : Setup) (m : Move) → resets_clock p m ≡ true → (after p m).halfmove ≡ 0
unfolding after halfmove_after
clock_reset p m e = rw e refl

clock_goes_on : (p : Setup) (m : Move) → resets_clock p m ≡ false → (after p m).halfmove ≡ min (p.halfmove + 1) 999999
unfolding after halfmove_after
clock_goes_on p m e = rw e refl

-- from a clock of at least n: the last n moves are quiet; by induction over the moves
pub quiet_for : (n : ℕ) (start : Setup) (ms : List Move) → n ≤ 999999 → n ≤ (position_after start ms).halfmove
    → IsQuietFor n start ms
quiet_for n start [] l h = record { many = omega (arith, h); quiet = λ k m e. absurd (nothing k m e) }
  where
    nothing : (k : ℕ) (m : Move) → slice_get [] k ≡ Some m → ⊥
    nothing k m e = cc
quiet_for n start (m ∷ ms) l h =
    let rest = quiet_for n (after start m) ms l h in
    elim (cases_Bool (resets_clock start m)) [
      | inl reset ↦
          let zero_now = clock_reset start m reset in
          let many = rest.many in
          record {
            many = omega (arith, many, zero_now);
            quiet = by_number (λ short. absurd (omega (arith, many, zero_now, short))) rest.quiet;
          }
      | inr on ↦
          let one_more = clock_goes_on start m on in
          let many = rest.many in
          record {
            many = omega (arith, many, one_more);
            quiet = by_number (λ short. quiet_of start m on) rest.quiet;
          }
    ]
  where
    by_number : (suc (length ms) ≤ n → IsQuiet start m)
        → ((k : ℕ) (x : Move) → slice_get ms k ≡ Some x → length ms ≤ k + n → IsQuiet (position_at (after start m) ms k) x)
        → (k : ℕ) (x : Move) → slice_get (m ∷ ms) k ≡ Some x → length (m ∷ ms) ≤ k + n
        → IsQuiet (position_at start (m ∷ ms) k) x
    by_number first later zero x e short = let same : m ≡ x = cc in subst (IsQuiet start) same (first (omega (arith, short)))
    by_number first later (suc k) x e short = later k x e (omega (arith, short))

-- from n quiet moves at the end: the clock is at least n; by induction over the moves
pub clock_from : (n : ℕ) (start : Setup) (ms : List Move) → n ≤ 999999 → IsQuietFor n start ms
    → n ≤ (position_after start ms).halfmove
clock_from n start [] l h = let many = h.many in omega (arith, many)
clock_from n start (m ∷ ms) l h =
    clock_from n (after start m) ms l (record {
      many = elim (cases_Bool (resets_clock start m)) [
        | inl reset ↦
            let zero_now = clock_reset start m reset in
            elim (cases_le n (length ms)) [
              | inl fits ↦ omega (arith, fits, zero_now)
              | inr short ↦ absurd (both_ways _ (not_reset start m (h.quiet 0 m refl (omega (arith, short)))) reset)
            ]
        | inr on ↦ let one_more = clock_goes_on start m on in let many = h.many in omega (arith, one_more, many, l)
      ];
      quiet = λ k x e short. h.quiet (suc k) x e (omega (arith, short));
    })
  where
    cases_le : (a b : ℕ) → (a ≤ b) ⊎ (b < a)
    cases_le a b = grind arith

-- ---- counters at their limit

number_of_white : (p : Setup) (m : Move) → p.side ≡ White → (after p m).fullmove ≡ p.fullmove
unfolding after
number_of_white p m e = ap (λ (c : Colour). by_colour p.fullmove (min (p.fullmove + 1) 999999) c) e

number_of_black : (p : Setup) (m : Move) → p.side ≡ Black → (after p m).fullmove ≡ min (p.fullmove + 1) 999999
unfolding after
number_of_black p m e = ap (λ (c : Colour). by_colour p.fullmove (min (p.fullmove + 1) 999999) c) e

pub counters_stop : CountersStop
counters_stop p m = record {
  quiet = λ h low. (let is = clock_goes_on p m (not_reset p m h) in omega (arith, is, low));
  full_clock = λ h full. (let is = clock_goes_on p m (not_reset p m h) in omega (arith, is, full));
  white = number_of_white p m;
  black = λ e low. (let is = number_of_black p m e in omega (arith, is, low));
  full_number = λ e full. (let is = number_of_black p m e in omega (arith, is, full));
}

-- ---- verdicts, by their tests: a no legal move, b insufficient material, c fifth time, d clock at 150, k check

fivefold_by : (a b c d k : Bool) (s : Colour) → judged a b c d k s ≡ Some FivefoldRepetition → c ≡ true
fivefold_by a b c d k s e = grind arith

seventy_five_by : (a b c d k : Bool) (s : Colour) → judged a b c d k s ≡ Some SeventyFiveMoves → d ≡ true
seventy_five_by a b c d k s e = grind arith

-- at the fifth time there is some verdict
some_by_count : (a b d k : Bool) (s : Colour) → judged a b true d k s ≡ None → ⊥
some_by_count a b d k s e = grind arith

-- with the clock at 150 there is some verdict
some_by_clock : (a b c k : Bool) (s : Colour) → judged a b c true k s ≡ None → ⊥
some_by_clock a b c k s e = grind arith

-- at the fifth time the verdict is not the 75-move rule
never_by_clock : (a b d k : Bool) (s : Colour) → judged a b true d k s ≡ Some SeventyFiveMoves → ⊥
never_by_clock a b d k s e = grind arith

verdict_is : (start : Setup) (ms : List Move) → verdict start ms ≡ judged_at 5 150 start ms
unfolding verdict
verdict_is start ms = refl

pub counting_ends : CountingEnds
counting_ends start ms =
    let p = position_after start ms in
    let is = verdict_is start ms in
    let a = has_none p in
    let b = has_insufficient_material p.men in
    let c = nat_le 5 (repetition_count start ms) in
    let d = nat_le 150 p.halfmove in
    let k = is_in_check p.men p.side in
    record {
      fivefold = λ e. there 5 start ms (leb-true _ _ (fivefold_by a b c d k p.side (sym is ∙ e)));
      at_fifth = λ h e. (let five = le-leb _ _ (counted 5 start ms h) in
          some_by_count a b d k p.side (subst (λ (t : Bool). judged a b t d k p.side ≡ None) five (sym is ∙ e)));
      seventy_five_moves = λ e.
          quiet_for 150 start ms (omega arith) (leb-true _ _ (seventy_five_by a b c d k p.side (sym is ∙ e)));
      after_150 = λ h e. (let late = le-leb _ _ (clock_from 150 start ms (omega arith) h) in
          some_by_clock a b c k p.side (subst (λ (t : Bool). judged a b c t k p.side ≡ None) late (sym is ∙ e)));
      fivefold_first = λ h e. (let five = le-leb _ _ (counted 5 start ms h) in
          never_by_clock a b d k p.side
          (subst (λ (t : Bool). judged a b t d k p.side ≡ Some SeventyFiveMoves) five (sym is ∙ e)));
      threefold = (λ e. there 3 start ms (leb-true _ _ e), λ h. le-leb _ _ (counted 3 start ms h));
      fifty_moves = (
        λ e. quiet_for 100 start ms (omega arith) (leb-true _ _ e),
        λ h. le-leb _ _ (clock_from 100 start ms (omega arith) h),
      );
    }

pub clocks_count_quiet_moves : ClocksCountQuietMoves
clocks_count_quiet_moves n start ms few = (λ e. quiet_for n start ms few e, λ h. clock_from n start ms few h)
