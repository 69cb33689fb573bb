-- A word shifted down or up by d has the squares whose numbers are d less or more, as far as they are from 0 to 63
-- (has_lowered, has_raised), shown bit by bit. The word of file a, shifted up by n, is file n (on_file), and that of
-- rank 1, shifted up by 8 n, is rank n (on_rank): the words of file a and rank 1 are checked for each of the 64
-- squares.
use Rattle.std.proofs.Common.{◌≡◌, ℕ, ◌<◌, ◌≤◌, ◌+◌, ◌-◌, ◌*◌, ◌/◌, ◌%◌, ◌^◌, inl, inr, ◌&&◌, ◌==◌, refl, sym, ap, ◌∙◌, arith, nat_le, pow_pos, shr-shr, div-add-mod'}
use Rattle.std.proofs.lemmas.Bool.{cases_lt, cases_Bool, le-leb, lt-leb, eqb-true, eq-eqb, ne_eqb, both_ways, agree_below_at}
use Rattle.std.proofs.lemmas.Nat.Bits.{bit_at-zero, bit_at_cat_low, bit_at_cat_high}
use Rattle.std.specs.Int.{bit_at}
use Rattle.chess_base.specs.Squares.{file, rank}
use Rattle.chess_moves.specs.Sets.{contains}

pub has_lowered : (w d k : ℕ) → contains (w / 2 ^ d) k ≡ contains w (k + d)
unfolding contains
has_lowered w d k =
    let e : d + k ≡ k + d = omega arith in
    ap (λ x. (x % 2) == 1) (shr-shr w d k ∙ ap (λ n. w / 2 ^ n) e)

-- cutting a number to 64 bits leaves its bits below 64
kept : (v k : ℕ) → k < 64 → bit_at (v % 2 ^ 64) k ≡ bit_at v k
kept v k l =
    sym (bit_at_cat_low (v / 2 ^ 64) 64 (v % 2 ^ 64) k l) ∙ ap (λ x. bit_at x k) (div-add-mod' v (2 ^ 64))

-- a number shifted up by d has no bit below d
moved_low : (w d k : ℕ) → k < d → bit_at (w * 2 ^ d) k ≡ 0
moved_low w d k l =
    let e : w * 2 ^ d ≡ w * 2 ^ d + 0 = omega arith in
    ap (λ x. bit_at x k) e ∙ bit_at_cat_low w d 0 k l ∙ bit_at-zero k

-- bit k of a number shifted up by d is its bit k - d, if k is d or more
moved_high : (w d k : ℕ) → d ≤ k → bit_at (w * 2 ^ d) k ≡ bit_at w (k - d)
moved_high w d k l =
    let e : w * 2 ^ d ≡ w * 2 ^ d + 0 = omega arith in
    ap (λ x. bit_at x k) e ∙ bit_at_cat_high w d 0 k (pow_pos d) l

pub has_raised : (w d k : ℕ) → k < 64 → contains (w * 2 ^ d % 2 ^ 64) k ≡ (nat_le d k && contains w (k - d))
unfolding contains
has_raised w d k l =
    elim (cases_lt k d) [
      | inl low ↦ rw (lt-leb d k low, kept (w * 2 ^ d) k l, moved_low w d k low) refl
      | inr high ↦ rw (le-leb _ _ high, kept (w * 2 ^ d) k l, moved_high w d k high) refl
    ]

-- ---- files and ranks

-- the word 0x0101010101010101 has the squares of file a; checked for each of the 64
on_first_file : (k : ℕ) → k < 64 → contains 72340172838076673 k ≡ (k % 8 == 0)
unfolding contains
on_first_file k l = agree_below_at (λ j. contains 72340172838076673 j) (λ j. j % 8 == 0) 64 k refl l

-- the word 0xFF has the squares of rank 1
on_first_rank : (k : ℕ) → k < 64 → contains 255 k ≡ (k / 8 == 0)
unfolding contains
on_first_rank k l = agree_below_at (λ j. contains 255 j) (λ j. j / 8 == 0) 64 k refl l

-- the word of file a, shifted up by n squares, has the squares of file n
pub on_file : (n k : ℕ) → n < 8 → k < 64 → (nat_le n k && contains 72340172838076673 (k - n)) ≡ (file k == n)
on_file n k low high =
    elim (cases_lt k n) [
      | inl below ↦ rw (lt-leb n k below) (sym (ne_eqb _ _ (λ e. omega (arith, e, below, low))))
      | inr above ↦
          rw (le-leb _ _ above, on_first_file (k - n) (omega (arith, high))) (elim (cases_Bool (k % 8 == n)) [
            | inl on ↦ let e = eqb-true _ _ on in
                eq-eqb _ _ (omega (arith, e, above)) ∙ sym on
            | inr off ↦ ne_eqb _ _
                (λ e. let f : k % 8 ≡ n = omega (arith, e, above, low) in both_ways _ off (eq-eqb _ _ f)) ∙ sym off
          ])
    ]

-- the word of rank 1, shifted up by 8 n squares, has the squares of rank n
pub on_rank : (n k : ℕ) → n < 8 → k < 64 → (nat_le (8 * n) k && contains 255 (k - 8 * n)) ≡ (rank k == n)
on_rank n k low high =
    elim (cases_lt k (8 * n)) [
      | inl below ↦ rw (lt-leb (8 * n) k below) (sym (ne_eqb _ _ (λ e. omega (arith, e, below))))
      | inr above ↦
          rw (le-leb _ _ above, on_first_rank (k - 8 * n) (omega (arith, high))) (elim (cases_Bool (k / 8 == n)) [
            | inl on ↦ let e = eqb-true _ _ on in
                eq-eqb _ _ (omega (arith, e, above)) ∙ sym on
            | inr off ↦ ne_eqb _ _
                (λ e. let f : k / 8 ≡ n = omega (arith, e, above) in both_ways _ off (eq-eqb _ _ f)) ∙ sym off
          ])
    ]
