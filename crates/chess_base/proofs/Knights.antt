-- A knight attacks b exactly if it is on one of eight squares, which the code finds by their numbers, four below b and
-- four above (attacked_by_knight_is); the definition looks at all 64. First the eight are taken by file and rank, both
-- counted from 2, so that none is below 0 (by_eight); then each by its number, with the test whether the board has it
-- (knight_by).
use Rattle.std.proofs.Common.{◌≡◌, ℕ, ◌+◌, ◌-◌, ◌*◌, ◌<◌, ◌≤◌, ◌⊎◌, inl, inr, Bool, true, false, ◌&&◌, ◌||◌, ◌==◌, nat_le, nat_lt, refl, sym, ◌∙◌, arith}
use Rattle.std.proofs.lemmas.Bool.{and_parts, and_from, cases_Bool, leb-true, ltb-true, or_cases, or_parts}
use Rattle.std.proofs.lemmas.Bool.Decides.{nat_tests}
use Rattle.std.specs.Int.{abs_diff}
use Rattle.chess_base.specs.{declared.man.Colour.Colour, declared.man.Kind.TheVariants.Knight, Squares.file, Squares.rank, Men.Men, Men.man_at, Men.is_man, Attacks.could_capture, ties.Lines.attacked_by_knight, ties.Lines.attacked_by_knight_from_below, ties.Lines.attacked_by_knight_from_above}
use Rattle.chess_base.proofs.shared.Squares.{some_square-at, some_square-none}

-- a knight of colour c is on the square of this file and rank, both counted from 2: so a knight's way from a square
-- gives no number below 0. False for a square that is not on the board
unfoldable has_knight : Men → Colour → ℕ → ℕ → Bool
has_knight men c f r = nat_le 2 f && nat_lt f 10 && nat_le 2 r && nat_lt r 10
    && is_man c Knight (man_at men (8 * (r - 2) + (f - 2)))

-- from one file and rank to another is a knight's way
abbrev a_way : ℕ → ℕ → ℕ → ℕ → Bool
a_way f r g q = ((abs_diff f g == 1) && (abs_diff r q == 2)) || ((abs_diff f g == 2) && (abs_diff r q == 1))

-- a test of the eight squares that are a knight's way from file f and rank r
abbrev eight : (ℕ → ℕ → Bool) → ℕ → ℕ → Bool
eight t f r =
    t (f - 1) (r - 2) || t (f + 1) (r - 2) || t (f - 2) (r - 1) || t (f + 2) (r - 1) || t (f - 2) (r + 1)
    || t (f + 2) (r + 1) || t (f - 1) (r + 2) || t (f + 1) (r + 2)

-- numbers that differ by one, or by two, each counted from 2: one of them is so much less or more than the other
one_apart : (m n : ℕ) → (abs_diff m n == 1) ≡ true → (m + 2 ≡ (n + 2) - 1) ⊎ (m + 2 ≡ (n + 2) + 1)
one_apart m n e = grind (arith, nat_tests, e)

two_apart : (m n : ℕ) → (abs_diff m n == 2) ≡ true → (m + 2 ≡ (n + 2) - 2) ⊎ (m + 2 ≡ (n + 2) + 2)
two_apart m n e = grind (arith, nat_tests, e)

-- where the test fails at all eight, it fails wherever there is a knight's way
none_of_eight : (t : ℕ → ℕ → Bool) (f r g q : ℕ) → eight t (g + 2) (q + 2) ≡ false → a_way f r g q ≡ true
    → t (f + 2) (r + 2) ≡ false
none_of_eight t f r g q e way =
    let h8 = or_parts _ _ e in
    let h7 = or_parts _ _ h8.0 in
    let h6 = or_parts _ _ h7.0 in
    let h5 = or_parts _ _ h6.0 in
    let h4 = or_parts _ _ h5.0 in
    let h3 = or_parts _ _ h4.0 in
    let h2 = or_parts _ _ h3.0 in
    elim (or_cases _ _ way) [
      | inl tall ↦
          let both = and_parts _ _ tall in
          elim (one_apart f g both.0) [
            | inl left ↦
                elim (two_apart r q both.1) [
                  | inl down ↦ rw (left, down) h2.0
                  | inr up ↦ rw (left, up) h7.1
                ]
            | inr right ↦
                elim (two_apart r q both.1) [
                  | inl down ↦ rw (right, down) h2.1
                  | inr up ↦ rw (right, up) h8.1
                ]
          ]
      | inr wide ↦
          let both = and_parts _ _ wide in
          elim (two_apart f g both.0) [
            | inl left ↦
                elim (one_apart r q both.1) [
                  | inl down ↦ rw (left, down) h3.1
                  | inr up ↦ rw (left, up) h5.1
                ]
            | inr right ↦
                elim (one_apart r q both.1) [
                  | inl down ↦ rw (right, down) h4.1
                  | inr up ↦ rw (right, up) h6.1
                ]
          ]
    ]

-- the square of a file and a rank, both counted from 2, as `has_knight` takes them
abbrev framed : ℕ → ℕ → ℕ
framed f r = 8 * (r - 2) + (f - 2)

-- it has this file and this rank; and each square of the board is given by its own
framed_file : (f r : ℕ) → 2 ≤ f → f < 10 → file (framed f r) ≡ f - 2
framed_file f r h g = omega arith

framed_rank : (f r : ℕ) → 2 ≤ f → f < 10 → rank (framed f r) ≡ r - 2
framed_rank f r h g = omega arith

framed_at : (a : ℕ) → framed (file a + 2) (rank a + 2) ≡ a
framed_at a = omega arith

-- a square of the board, framed
has_knight_at : (men : Men) (c : Colour) (a : ℕ) → a < 64
    → has_knight men c (file a + 2) (rank a + 2) ≡ is_man c Knight (man_at men a)
unfolding has_knight
has_knight_at men c a low =
    let f1 : nat_le 2 (file a + 2) ≡ true = grind (arith, nat_tests) in
    let f2 : nat_lt (file a + 2) 10 ≡ true = grind (arith, nat_tests) in
    let r1 : nat_le 2 (rank a + 2) ≡ true = grind (arith, nat_tests) in
    let r2 : nat_lt (rank a + 2) 10 ≡ true = grind (arith, nat_tests) in
    rw (f1, f2, r1, r2, framed_at a) refl

-- a test that fails where another passes doesn't pass together with it
guarded : (p q : Bool) → (q ≡ true → p ≡ false) → (p && q) ≡ false
guarded true true h = h refl
guarded true false h = refl
guarded false q h = refl

-- if none of the eight squares has a knight, no knight attacks b
none_attacked : (men : Men) (c : Colour) (b : ℕ) → eight (has_knight men c) (file b + 2) (rank b + 2) ≡ false
    → attacked_by_knight men c b ≡ false
unfolding attacked_by_knight could_capture
none_attacked men c b e =
    some_square-none _ (λ a low. guarded _ _ (λ way. sym (has_knight_at men c a low)
    ∙ none_of_eight (has_knight men c) (file a) (rank a) (file b) (rank b) e way))

-- a knight's way is one, whether the start's file and rank are counted from 2 or from 0
way_framed : (f r g q : ℕ) → 2 ≤ f → 2 ≤ r → a_way f r (g + 2) (q + 2) ≡ true → a_way (f - 2) (r - 2) g q ≡ true
way_framed f r g q h l e = grind (arith, nat_tests, e)

-- a knight that is a knight's way from b attacks it
knight_there : (men : Men) (c : Colour) (b f r : ℕ) → a_way f r (file b + 2) (rank b + 2) ≡ true
    → has_knight men c f r ≡ true → attacked_by_knight men c b ≡ true
unfolding has_knight attacked_by_knight could_capture
knight_there men c b f r way e =
    let all = and_parts _ _ e in
    let r_high = and_parts _ _ all.0 in
    let r_low = and_parts _ _ r_high.0 in
    let f_both = and_parts _ _ r_low.0 in
    let fl = leb-true _ _ f_both.0 in
    let fh = ltb-true _ _ f_both.1 in
    let rl = leb-true _ _ r_low.1 in
    let rh = ltb-true _ _ r_high.1 in
    let moved : a_way (file (framed f r)) (rank (framed f r)) (file b) (rank b) ≡ true =
    rw (framed_file f r fl fh, framed_rank f r fl fh) (way_framed f r (file b) (rank b) fl rl way) in
    some_square-at _ (framed f r) (omega arith) (and_from _ _ all.1 moved)

-- what follows from each of two tests follows if one of them passes
either : (p q r : Bool) → (p ≡ true → r ≡ true) → (q ≡ true → r ≡ true) → (p || q) ≡ true → r ≡ true
either true q r h g e = h refl
either false q r h g e = g e

-- so if one of the eight squares has a knight, b is attacked
one_of_eight : (men : Men) (c : Colour) (b : ℕ) → eight (has_knight men c) (file b + 2) (rank b + 2) ≡ true
    → attacked_by_knight men c b ≡ true
one_of_eight men c b =
    let f = file b + 2 in
    let r = rank b + 2 in
    let r' = attacked_by_knight men c b in
    let t : ℕ → ℕ → Bool = has_knight men c in
    let s1 = λ (e : t (f - 1) (r - 2) ≡ true). knight_there men c b (f - 1) (r - 2) (grind (arith, nat_tests)) e in
    let s2 = λ (e : t (f + 1) (r - 2) ≡ true). knight_there men c b (f + 1) (r - 2) (grind (arith, nat_tests)) e in
    let s3 = λ (e : t (f - 2) (r - 1) ≡ true). knight_there men c b (f - 2) (r - 1) (grind (arith, nat_tests)) e in
    let s4 = λ (e : t (f + 2) (r - 1) ≡ true). knight_there men c b (f + 2) (r - 1) (grind (arith, nat_tests)) e in
    let s5 = λ (e : t (f - 2) (r + 1) ≡ true). knight_there men c b (f - 2) (r + 1) (grind (arith, nat_tests)) e in
    let s6 = λ (e : t (f + 2) (r + 1) ≡ true). knight_there men c b (f + 2) (r + 1) (grind (arith, nat_tests)) e in
    let s7 = λ (e : t (f - 1) (r + 2) ≡ true). knight_there men c b (f - 1) (r + 2) (grind (arith, nat_tests)) e in
    let s8 = λ (e : t (f + 1) (r + 2) ≡ true). knight_there men c b (f + 1) (r + 2) (grind (arith, nat_tests)) e in
    either _ _ r' (either _ _ r' (either _ _ r' (either _ _ r' (either _ _ r' (either _ _ r' (either _ _ r' s1 s2) s3) s4)
    s5) s6) s7) s8

-- a knight attacks b exactly if one of the eight squares has one
by_eight : (men : Men) (c : Colour) (b : ℕ)
    → attacked_by_knight men c b ≡ eight (has_knight men c) (file b + 2) (rank b + 2)
by_eight men c b =
    elim (cases_Bool (eight (has_knight men c) (file b + 2) (rank b + 2))) [
      | inl some ↦ one_of_eight men c b some ∙ sym some
      | inr none ↦ none_attacked men c b none ∙ sym none
    ]

-- ---- the eight squares by their numbers

-- a test of x or y, made only if p passes, or only if q and r do: the same if p is q and r, and then x is y
same_knight : (t : ℕ → Bool) (p q r : Bool) (x y : ℕ) → p ≡ (q && r) → (q ≡ true → r ≡ true → x ≡ y)
    → (p && t x) ≡ (q && r && t y)
same_knight t p true true x y e h = rw (e, h refl refl) refl
same_knight t p true false x y e h = rw e refl
same_knight t p false r x y e h = rw e refl

-- one of the eight squares by its number x: it is on the board exactly if p and q pass
knight_by : (men : Men) (c : Colour) (f r : ℕ) (p q : Bool) (x : ℕ)
    → (nat_le 2 f && nat_lt f 10 && nat_le 2 r && nat_lt r 10) ≡ (p && q)
    → (p ≡ true → q ≡ true → framed f r ≡ x) → has_knight men c f r ≡ (p && q && is_man c Knight (man_at men x))
unfolding has_knight
knight_by men c f r p q x e h = same_knight (λ y. is_man c Knight (man_at men y)) _ p q (framed f r) x e h

-- the first four of eight tests, or the last four
two_halves : (h1 h2 h3 h4 h5 h6 h7 h8 : Bool)
    → (h1 || h2 || h3 || h4 || h5 || h6 || h7 || h8) ≡ ((h1 || h2 || h3 || h4) || (h5 || h6 || h7 || h8))
two_halves h1 h2 h3 h4 h5 h6 h7 h8 = grind arith

-- the eight squares by their numbers: four are below b and four above
pub attacked_by_knight_is : (men : Men) (c : Colour) (b : ℕ) → b < 64
    → attacked_by_knight men c b ≡ (attacked_by_knight_from_below men c b || attacked_by_knight_from_above men c b)
unfolding attacked_by_knight_from_below attacked_by_knight_from_above
attacked_by_knight_is men c b low =
    let t : ℕ → ℕ → Bool = has_knight men c in
    let f = file b + 2 in
    let r = rank b + 2 in
    by_eight men c b
    ∙ (two_halves (t (f - 1) (r - 2)) (t (f + 1) (r - 2)) (t (f - 2) (r - 1)) (t (f + 2) (r - 1)) (t (f - 2) (r + 1))
    (t (f + 2) (r + 1)) (t (f - 1) (r + 2)) (t (f + 1) (r + 2))
    ∙ rw (
      knight_by men c (f - 1) (r - 2) (nat_le 2 (rank b)) (nat_le 1 (file b)) (b - 16 - 1) (grind (arith, nat_tests))
          (λ h g. grind (arith, nat_tests, h, g)),
      knight_by men c (f + 1) (r - 2) (nat_le 2 (rank b)) (nat_lt (file b) 7) (b - 16 + 1) (grind (arith, nat_tests))
          (λ h g. grind (arith, nat_tests, h, g)),
      knight_by men c (f - 2) (r - 1) (nat_le 1 (rank b)) (nat_le 2 (file b)) (b - 8 - 2) (grind (arith, nat_tests))
          (λ h g. grind (arith, nat_tests, h, g)),
      knight_by men c (f + 2) (r - 1) (nat_le 1 (rank b)) (nat_lt (file b) 6) (b - 8 + 2) (grind (arith, nat_tests))
          (λ h g. grind (arith, nat_tests, h, g)),
      knight_by men c (f - 2) (r + 1) (nat_lt (rank b) 7) (nat_le 2 (file b)) (b + 8 - 2) (grind (arith, nat_tests))
          (λ h g. grind (arith, nat_tests, h, g)),
      knight_by men c (f + 2) (r + 1) (nat_lt (rank b) 7) (nat_lt (file b) 6) (b + 8 + 2) (grind (arith, nat_tests))
          (λ h g. grind (arith, nat_tests, h, g)),
      knight_by men c (f - 1) (r + 2) (nat_lt (rank b) 6) (nat_le 1 (file b)) (b + 16 - 1) (grind (arith, nat_tests))
          (λ h g. grind (arith, nat_tests, h, g)),
      knight_by men c (f + 1) (r + 2) (nat_lt (rank b) 6) (nat_lt (file b) 7) (b + 16 + 1) (grind (arith, nat_tests))
          (λ h g. grind (arith, nat_tests, h, g)),
    ) refl)
