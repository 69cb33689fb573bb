-- How the first byte that passes a test is found block by block. A block's mask has a bit for each of its bytes, which
-- is 1 where the byte passes (mask_of; for the test `is_any`, one of three bytes, by tops). If no bit is set, the block
-- is passed over (passed); otherwise the lowest set bit is that of the first such byte (found). The number of bytes
-- before it is at most the length (few_before); and three equal bytes are one (before_one).
use Rattle.std.proofs.Common.{◌≡◌, ◌≢◌, ℕ, ◌+◌, ◌*◌, ◌≤◌, ◌%◌, ◌^◌, Bool, true, false, not, cond, eqb, ◌||◌, List, [], ◌∷◌, length, map, drop, bit_or, refl, sym, ap, ◌∙◌, arith, ◌==◌}
use Rattle.std.specs.List.{position_or_len}
use Rattle.std.proofs.{Math.Path.fun_ext, lemmas.List.length-map, lemmas.List.Folds.prefix_len-append, lemmas.List.Sums.prefix_len-le-length}
use Rattle.std.proofs.lemmas.Bool.{eq-eqb, ne_eqb, cond-true, cond-false}
use Rattle.std.proofs.lemmas.Simd.{chunk-drop, length-chunk, leading_from_mask_l, map-map, mask_l-mod, trailing_mask_l}
use lib.{Count.count_trailing_zeros, Lanes.chunk, Lanes.mask_l, Lanes.top}

-- whether a byte is one of three
abbrev pub is_any : ℕ → ℕ → ℕ → ℕ → Bool
is_any a b c = λ x. x == a || (x == b || x == c)

-- the first byte that is any of `a`, `a` and `a` is the first `a`
one_of_one : (b : Bool) → (b || (b || b)) ≡ b
one_of_one true = refl
one_of_one false = refl

pub before_one : (a : ℕ) (xs : List ℕ) → position_or_len (is_any a a a) xs ≡ position_or_len (λ x. x == a) xs
before_one a xs = ap (λ p. position_or_len p xs) (fun_ext (λ x. one_of_one (x == a)))

-- ---- the mask of a block, in which a bit is set for each byte that passes

-- the top bit of a lane in which three tests are joined, each 255 or 0
pub tops : (a b c : Bool) → top 7 (bit_or (bit_or (cond a 255 0) (cond b 255 0)) (cond c 255 0)) ≡ (a || (b || c))
tops true true true = refl
tops true true false = refl
tops true false true = refl
tops true false false = refl
tops false true true = refl
tops false true false = refl
tops false false true = refl
tops false false false = refl

-- the mask by the top bits of the lanes is the mask by the test `p`, if the lane of each byte has its top bit set just
-- where `p` passes
pub mask_of : (p : ℕ → Bool) (f : ℕ → ℕ) (xs lanes : List ℕ) → lanes ≡ map f xs → ((x : ℕ) → top 7 (f x) ≡ p x)
    → length xs ≤ 64 → mask_l (map (top 7) lanes) % 2 ^ 64 ≡ mask_l (map p xs)
mask_of p f xs lanes is tests few =
    let bits : map (top 7) lanes ≡ map p xs =
    ap (map (top 7)) is ∙ map-map (top 7) f xs ∙ ap (λ q. map q xs) (fun_ext tests) in
    ap (λ ms. mask_l ms % 2 ^ 64) bits ∙ mask_l-mod (map p xs) 64 (omega (arith, length-map xs p, few))

-- where no byte passes, no bit is set
bit_unset : (b : Bool) (n l m : ℕ) → n ≤ l → cond (not b) (1 + n) 0 ≡ 1 + l → (n ≡ l → m ≡ 0)
    → cond b 1 0 + 2 * m ≡ 0
bit_unset true n l m few all on = absurd (omega (arith, all))
bit_unset false n l m few all on = let none = on (omega (arith, all)) in omega (arith, none)

module _ (p : ℕ → Bool) where
  -- no byte passes: the mask is 0; by induction on the bytes
  none_set : (xs : List ℕ) → position_or_len p xs ≡ length xs → mask_l (map p xs) ≡ 0
  none_set [] all = refl
  none_set (x ∷ xs) all =
      let up : cond (not (p x)) (1 + position_or_len p xs) 0 ≡ 1 + length xs = omega (arith, all) in
      let few = prefix_len-le-length (λ y. not (p y)) xs in
      bit_unset (p x) (position_or_len p xs) (length xs) (mask_l (map p xs)) few up (none_set xs)

  -- the block of `n` bytes from the offset `k` on, and how many bytes `after` it come before the next that passes
  module _ (xs : List ℕ) (k n : ℕ) (room : k + n ≤ length xs) where
    abbrev block : List ℕ
    block = chunk k n xs

    abbrev after : ℕ
    after = position_or_len p (drop (k + n) xs)

    -- the first byte that passes from `k` on is in the block, or comes after it
    by_block : position_or_len p (drop k xs)
        ≡ cond (eqb (position_or_len p block) (length block)) (length block + after) (position_or_len p block)
    by_block = ap (position_or_len p) (chunk-drop k n xs) ∙ prefix_len-append (λ x. not (p x)) block (drop (k + n) xs)

    -- no bit is set: the block is passed
    pub passed : (mask : ℕ) → mask ≡ mask_l (map p block) → mask ≡ 0 → position_or_len p (drop k xs) ≡ n + after
    passed mask is none =
        let long = length-chunk k n xs room in
        by_block ∙ cond-true _ _ _ (eq-eqb _ _ (leading_from_mask_l p block (sym is ∙ none)))
        ∙ ap (λ len. len + after) long

    -- a bit is set: the lowest is that of the first byte
    pub found : (mask : ℕ) → mask ≡ mask_l (map p block) → mask ≢ 0 → n ≤ 64
        → position_or_len p (drop k xs) ≡ count_trailing_zeros 64 mask
    found mask is some few =
        let long = length-chunk k n xs room in
        let not_all : position_or_len p block ≢ length block = λ all. some (is ∙ none_set block all) in
        by_block
        ∙ cond-false _ _ _ (ne_eqb _ _ not_all)
        ∙ sym (trailing_mask_l p 64 block (omega (arith, long, few)) (omega (arith, is, some)))
        ∙ ap (λ m. count_trailing_zeros 64 m) (sym is)

-- no more bytes come before it than there are
pub few_before : (p : ℕ → Bool) (xs : List ℕ) (r : ℕ) → r ≡ position_or_len p xs → r ≤ length xs
few_before p xs r is = let few = prefix_len-le-length (λ x. not (p x)) xs in omega (arith, few, is)
