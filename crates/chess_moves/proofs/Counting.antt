-- The number of 1s in a word of 64 bits is the number of squares in its set (members_counted). Shown for the bits from
-- a on (counted_from), by induction over how many bits are left: bit a is 1 exactly if square a is a member.
use Rattle.std.proofs.Common.{◌≡◌, ℕ, zero, suc, ◌+◌, ◌*◌, ◌/◌, ◌%◌, ◌^◌, ◌<◌, inl, inr, Bool, cond, List, ◌∷◌, length, refl, sym, ap, ◌∙◌, arith}
use Rattle.std.proofs.{lemmas.Bool.cases_Bool, Math.Nat.div-div-eq-div-mul, Math.Nat.pow-suc}
use Rattle.std.specs.{Int.bit_at, Int.RustNames.count_ones, List.range_with_len, List.filter}
use lib.Count.{ones_step}
use Rattle.chess_moves.specs.Sets.{contains, members}
use Rattle.chess_moves.proofs.{shared.Members.of_range, SetBits.bit_cases}

-- how many of a and xs pass the test q: 1 or 0 for a, and those of xs
one_more : (q : ℕ → Bool) (a : ℕ) (xs : List ℕ) → length (filter q (a ∷ xs)) ≡ cond (q a) 1 0 + length (filter q xs)
one_more q a xs = elim (cases_Bool (q a)) [ inl kept ↦ rw kept (omega arith) | inr left ↦ rw left (omega arith) ]

-- whether square k is in the set, as a number, is bit k of the word
bit_counted : (w k : ℕ) → cond (contains w k) 1 0 ≡ bit_at w k
unfolding contains
bit_counted w k = elim (bit_cases w k) [ inl none ↦ rw none refl | inr one ↦ rw one refl ]

-- the 1s of the word from bit a on, where n bits are left, are the squares of the set among a to a + n - 1
counted_from : (w n a : ℕ) → w / 2 ^ a < 2 ^ n
    → count_ones (w / 2 ^ a) ≡ length (filter (λ k. contains w k) (range_with_len a n))
unfolding count_ones
counted_from w zero a h = let none : w / 2 ^ a ≡ 0 = omega (arith, h) in rw none refl
counted_from w (suc n) a h =
    let half : w / 2 ^ a / 2 ≡ w / 2 ^ (a + 1) = div-div-eq-div-mul w (2 ^ a) 2
    ∙ ap (λ x. w / x) (sym (pow-suc 2 a) ∙ ap (λ x. 2 ^ x) (omega arith)) in
    let twice : w / 2 ^ a < 2 ^ n * 2 = rw (pow-suc 2 n) at h in
    let small : w / 2 ^ (a + 1) < 2 ^ n =
    rw half at (let below : w / 2 ^ a / 2 < 2 ^ n = omega (arith, twice) in below) in
    let rest = counted_from w n (a + 1) small in
    let step : count_ones (w / 2 ^ a) ≡ w / 2 ^ a % 2 + count_ones (w / 2 ^ a / 2) = ones_step (w / 2 ^ a) in
    let bit : cond (contains w a) 1 0 ≡ w / 2 ^ a % 2 = bit_counted w a in
    let more = one_more (λ k. contains w k) a (range_with_len (a + 1) n) in
    step ∙ rw (half, rest, ← bit) (sym more)

pub members_counted : (w : ℕ) → w < 2 ^ 64 → count_ones w ≡ length (members w)
members_counted w h =
    let whole : w / 2 ^ 0 ≡ w = omega arith in
    ap count_ones (sym whole) ∙ counted_from w 64 0 (rw whole h) ∙ ap length (sym (of_range w))
