-- The table `RUNS` of what each byte of a rank denotes agrees with the definition `squares_of` at each of the 256 bytes
-- (run_stands), and each entry has at least one square (run_some). That each entry fits is computed (all_fit); that an
-- entry which fits denotes the squares is proved (stands_by).
use Rattle.std.proofs.Common.{◌≡◌, ℕ, zero, suc, ◌-◌, ◌<◌, ◌≤◌, Bool, true, false, cond, eqb, leb, ◌&&◌, List, [], ◌∷◌, get_or, Option, Some, None, refl, sym, ap, ◌∙◌, arith, option_map, is_none, replicate}
use Rattle.std.proofs.lemmas.Bool.{and_parts, agree_below, agree_below_at, eqb-true}
use Rattle.std.proofs.lemmas.Bool.Decides.{nat_tests}
use Rattle.chess_base.specs.{declared.man.Man.Man, Letters.letter, Letters.man_with_letter}
use Rattle.chess_fen.specs.{declared.letters.Run.Run, declared.letters.TheConstants.RUNS, Texts.squares_of, ties.Runs.squares_in}
use Rattle.chess_fen.proofs.{RankBytes.no_man, RankBytes.squares-digit, DenotedRanks.squares-letter}

abbrev no_squares : Option (List (Option Man))
no_squares = None

-- what the look-up gives past the table's end
abbrev nothing : Run
nothing = record { first = None; squares = 0 }

-- whether the byte b denotes this number of squares, the first of them with this piece; a number from 9 on means that b
-- denotes none
abbrev fits_by : Option Man → ℕ → ℕ → Bool
fits_by None squares b =
    cond (leb 49 b && leb b 56) (eqb squares (b - 48)) (leb 9 squares && is_none (man_with_letter b))
fits_by (Some m) squares b = eqb (letter m) b && eqb squares 1

-- the entry r fits the byte b
abbrev fits : ℕ → Run → Bool
fits b r = fits_by r.first r.squares b

all_fit : agree_below (λ b. fits b (get_or RUNS b nothing)) (λ b. true) 256 ≡ true
all_fit = refl

fit_at : (b : ℕ) → b < 256 → fits b (get_or RUNS b nothing) ≡ true
fit_at b lt = agree_below_at (λ b. fits b (get_or RUNS b nothing)) (λ b. true) 256 b all_fit lt

-- n is one less than its successor
less : (n : ℕ) → n ≡ suc n - 1
less n = omega arith

-- n empty squares are one and n - 1 more
first_of : (n : ℕ) → 0 < n → replicate n no_man ≡ None ∷ replicate (n - 1) None
first_of zero h = absurd (omega (arith, h))
first_of (suc n) h = ap (λ k. no_man ∷ replicate k no_man) (less n)

-- the squares of an entry that fits are those that the byte denotes
stands_by : (first : Option Man) (squares b : ℕ) → fits_by first squares b ≡ true
    → (squares_of b ≡ squares_in (record { first = first; squares = squares })) × (0 < squares)
stands_by (Some m) squares b h =
    let both = and_parts (eqb (letter m) b) (eqb squares 1) h in
    let byte : letter m ≡ b = eqb-true (letter m) b both.0 in
    let one : squares ≡ 1 = eqb-true squares 1 both.1 in
    rw (sym byte, one) (squares-letter m, omega arith)
stands_by None squares b h = by_digit (leb 49 b && leb b 56) refl h
  where
    by_man : (o : Option Man) → is_none o ≡ true → option_map (λ m. Some m ∷ []) o ≡ no_squares
    by_man None e = refl
    by_man (Some m) e = absurd cc

    by_digit : (t : Bool) → (leb 49 b && leb b 56) ≡ t
        → cond t (eqb squares (b - 48)) (leb 9 squares && is_none (man_with_letter b)) ≡ true
        → (squares_of b ≡ squares_in (record { first = None; squares = squares })) × (0 < squares)
    by_digit true t e =
        let low : 49 ≤ b = grind (arith, nat_tests) in
        let high : b ≤ 56 = grind (arith, nat_tests) in
        let count : squares ≡ b - 48 = eqb-true squares (b - 48) e in
        let some : 0 < squares = omega arith in
        let few : leb squares 8 ≡ true = grind (arith, nat_tests) in
        let all : replicate squares no_man ≡ None ∷ replicate (squares - 1) None = first_of squares some in (
          squares-digit b low high ∙ ap (λ n. Some (replicate n None)) (sym count)
              ∙ rw few (ap (λ row. Some row) all),
          some,
        )
    by_digit false t e =
        let both = and_parts (leb 9 squares) (is_none (man_with_letter b)) e in
        let many : leb squares 8 ≡ false = grind (arith, nat_tests, both.0) in
        let some : 0 < squares = grind (arith, nat_tests, both.0) in
        (rw (t, many) (by_man (man_with_letter b) both.1), some)

-- the table's run for a byte has the squares that the byte denotes, if any
pub run_stands : (b : ℕ) → b < 256 → squares_of b ≡ squares_in (get_or RUNS b nothing)
run_stands b lt =
    let run = get_or RUNS b nothing in
    (stands_by run.first run.squares b (fit_at b lt)).0

-- each run of the table has at least one square
pub run_some : (b : ℕ) → b < 256 → 0 < (get_or RUNS b nothing).squares
run_some b lt =
    let run = get_or RUNS b nothing in
    (stands_by run.first run.squares b (fit_at b lt)).1
