-- A level of at most 999 moves, a base of at most 59,999,999 and an increment of at most 999,999 milliseconds is parsed
-- back from what is written of it (level_back): its three words have neither spaces nor tabs, and each is parsed as the
-- number for which it was written. For this, lemmas on digits, decimals, and what comes before a colon or a point.
use Rattle.std.proofs.Common.{◌≡◌, ℕ, suc, ◌+◌, ◌*◌, ◌/◌, ◌%◌, ◌<◌, ◌≤◌, Bool, true, false, eqb, ltb, leb, List, [], ◌∷◌, ◌++◌, length, take, drop, Some, refl, sym, ap, ◌∙◌, arith, rules, decimal, ◌==◌, append-nil, length-append, take_all}
use Rattle.std.specs.{List.list_all, List.position_or_len, Char.digit_value, Str.Parse.digits_value}
use Rattle.std.proofs.{lemmas.Bool.and_parts, lemmas.Bool.Decides.nat_tests, lemmas.Str.Parse.IsNumeralModel, lemmas.Str.Parse.numerals_by_value, lemmas.Str.digit_value_digit}
use Rattle.std.proofs.lemmas.Fmt.{digits_decimal, digits_value-decimal, length-decimal-le, decimal_nonempty}
use Rattle.byte_devices.specs.Bytes.{byte, is_digit, is_blank}
use Rattle.text_lines.specs.{Lines.without_front_blanks, Words.short_number, Words.word_of, Words.argument_of}
use Rattle.cecp_engine.specs.Levels.{level_of, level_reading, level_text, base_of, base_text, two_digits, decimals_text, increment_text, milliseconds_of, thousandths_of}

-- ---- words

-- none of these bytes is a space or a tab
abbrev Solid : List ℕ → Type 0
Solid [] = Unit {0}
Solid (c ∷ cs) = (is_blank c ≡ false) × Solid cs

solid_append : (xs ys : List ℕ) → Solid xs → Solid ys → Solid (xs ++ ys)
solid_append [] ys h k = k
solid_append (c ∷ cs) ys h k = (h.0, solid_append cs ys h.1 k)

dropped : (xs ys : List ℕ) → drop (length xs) (xs ++ ys) ≡ ys
dropped [] ys = refl
dropped (c ∷ cs) ys = dropped cs ys

taken : (xs ys : List ℕ) → take (length xs) (xs ++ ys) ≡ xs
taken [] ys = refl
taken (c ∷ cs) ys = ap (λ v. c ∷ v) (taken cs ys)

dropped_one : (xs : List ℕ) (c : ℕ) (ys : List ℕ) → drop (length xs + 1) (xs ++ c ∷ ys) ≡ ys
dropped_one [] c ys = refl
dropped_one (x ∷ xs) c ys =
    let more : suc (length xs) + 1 ≡ suc (length xs + 1) = omega arith in
    ap (λ n. drop n (x ∷ (xs ++ c ∷ ys))) more ∙ dropped_one xs c ys

-- the word before a space is read whole
word_before : (xs rest : List ℕ) → Solid xs → word_of (xs ++ byte " " ∷ rest) ≡ xs
word_before [] rest h = refl
word_before (c ∷ cs) rest h = rw h.0 (ap (λ v. c ∷ v) (word_before cs rest h.1))

word_whole : (xs : List ℕ) → Solid xs → word_of xs ≡ xs
word_whole [] h = refl
word_whole (c ∷ cs) h = rw h.0 (ap (λ v. c ∷ v) (word_whole cs h.1))

front_solid : (xs rest : List ℕ) → 0 < length xs → Solid xs → without_front_blanks (xs ++ rest) ≡ xs ++ rest
front_solid [] rest some h = absurd (omega arith)
front_solid (c ∷ cs) rest some h = rw h.0 refl

-- what follows a word and a space
argument_before : (xs rest : List ℕ) → Solid xs → argument_of (xs ++ byte " " ∷ rest) ≡ without_front_blanks rest
unfolding argument_of
argument_before xs rest h = rw (word_before xs rest h, dropped xs (byte " " ∷ rest)) refl

argument_whole : (xs : List ℕ) → Solid xs → argument_of xs ≡ []
unfolding argument_of
argument_whole xs h = rw (word_whole xs h) (ap without_front_blanks (
    ap (λ v. drop (length xs) v) (sym (append-nil xs)) ∙ dropped xs []))

-- ---- numbers

-- digits and their value, in the form in which the lemmas on numerals ask for them
pub numeral : IsNumeralModel (λ ds. list_all is_digit ds ≡ true) (digits_value 10)
numeral = numerals_by_value _ (search rules)

are_digits : (n : ℕ) → n ≤ 999 → list_all is_digit (decimal n) ≡ true
are_digits n h = digits_decimal numeral n (omega arith)

digit_solid : (c : ℕ) → is_digit c ≡ true → is_blank c ≡ false
digit_solid c h = grind (arith, nat_tests)

digits_solid : (ds : List ℕ) → list_all is_digit ds ≡ true → Solid ds
digits_solid [] h = tt
digits_solid (c ∷ cs) h =
    let p = and_parts (is_digit c) (list_all is_digit cs) h in (digit_solid c p.0, digits_solid cs p.1)

decimal_solid : (n : ℕ) → n ≤ 999 → Solid (decimal n)
decimal_solid n h = digits_solid (decimal n) (are_digits n h)

-- a number of at most three digits is read back from its digits
number_back : (n : ℕ) → n ≤ 999 → short_number 3 (decimal n) ≡ Some n
number_back n h =
    let some : 0 < length (decimal n) = decimal_nonempty n (omega arith) in
    let short : length (decimal n) ≤ 3 = length-decimal-le 3 n (omega arith) (omega arith) (omega arith) in
    let t0 : ltb 0 (length (decimal n)) ≡ true = grind (arith, nat_tests) in
    let t1 : leb (length (decimal n)) 3 ≡ true = grind (arith, nat_tests) in
    rw (t0, t1, are_digits n h, digits_value-decimal numeral n (omega arith)) refl

digit_is : (d : ℕ) → d ≤ 9 → is_digit (48 + d) ≡ true
digit_is d h =
    let a : leb 48 (48 + d) ≡ true = grind (arith, nat_tests) in
    let b : leb (48 + d) 57 ≡ true = grind (arith, nat_tests) in
    rw (a, b) refl

digit_back : (d : ℕ) → d ≤ 9 → digit_value (48 + d) ≡ d
digit_back d h =
    let e : digit_value (48 + d) + 48 ≡ 48 + d = digit_value_digit (48 + d) (omega arith, omega arith) in omega (arith, e)

-- digits, and the number that they denote
one_digit_back : (d : ℕ) → d ≤ 9 → short_number 3 ((48 + d) ∷ []) ≡ Some d
one_digit_back d h =
    let is : 0 * 10 + d ≡ d = omega arith in
    rw (digit_is d h, digit_back d h) (ap Some is)

two_digits_are : (n : ℕ) → n < 100 → list_all is_digit (two_digits n) ≡ true
two_digits_are n h =
    let tens : n / 10 ≤ 9 = omega arith in
    let ones : n % 10 ≤ 9 = omega arith in
    rw (digit_is (n / 10) tens, digit_is (n % 10) ones) refl

two_digits_back : (most n : ℕ) → 2 ≤ most → n < 100 → short_number most (two_digits n) ≡ Some n
two_digits_back most n room h =
    let tens : n / 10 ≤ 9 = omega arith in
    let ones : n % 10 ≤ 9 = omega arith in
    let short : leb 2 most ≡ true = grind (arith, nat_tests) in
    let is : (0 * 10 + n / 10) * 10 + n % 10 ≡ n = omega arith in
    rw (short, digit_is (n / 10) tens, digit_is (n % 10) ones, digit_back (n / 10) tens, digit_back (n % 10) ones)
    (ap Some is)

three_digits_back : (n : ℕ) → n < 1000 → short_number 3 ((48 + n / 100) ∷ two_digits (n % 100)) ≡ Some n
three_digits_back n h =
    let hundreds : n / 100 ≤ 9 = omega arith in
    let tens : n % 100 / 10 ≤ 9 = omega arith in
    let ones : n % 100 % 10 ≤ 9 = omega arith in
    let is : ((0 * 10 + n / 100) * 10 + n % 100 / 10) * 10 + n % 100 % 10 ≡ n = omega arith in
    rw (
      digit_is (n / 100) hundreds,
      digit_is (n % 100 / 10) tens,
      digit_is (n % 100 % 10) ones,
      digit_back (n / 100) hundreds,
      digit_back (n % 100 / 10) tens,
      digit_back (n % 100 % 10) ones,
    ) (ap Some is)

-- ---- decimals

-- what is written after a point: digits, which are parsed as `n` thousandths
record AreDecimals (ds : List ℕ) (n : ℕ) : Type 0 where
  back : thousandths_of ds ≡ Some n
  digits : list_all is_digit ds ≡ true

tenths : (n : ℕ) → n < 1000 → n % 100 ≡ 0 → AreDecimals ((48 + n / 100) ∷ []) n
unfolding thousandths_of
tenths n h none =
    let few : n / 100 ≤ 9 = omega arith in
    let is : n / 100 * 100 ≡ n = omega arith in
    record { back = rw (one_digit_back (n / 100) few) (ap Some is); digits = rw (digit_is (n / 100) few) refl }

hundredths : (n : ℕ) → n < 1000 → n % 10 ≡ 0 → AreDecimals (two_digits (n / 10)) n
unfolding thousandths_of
hundredths n h none =
    let few : n / 10 < 100 = omega arith in
    let is : n / 10 * 10 ≡ n = omega arith in
    record {
      back = rw (two_digits_back 3 (n / 10) (omega arith) few) (ap Some is);
      digits = two_digits_are (n / 10) few;
    }

all_thousandths : (n : ℕ) → n < 1000 → AreDecimals ((48 + n / 100) ∷ two_digits (n % 100)) n
unfolding thousandths_of
all_thousandths n h =
    let few : n / 100 ≤ 9 = omega arith in
    let is : n * 1 ≡ n = omega arith in
    record {
      back = rw (three_digits_back n h) (ap Some is);
      digits = rw (digit_is (n / 100) few) (two_digits_are (n % 100) (omega arith));
    }

-- the decimals that are written of `n` thousandths, which are not none
record Decimals (n : ℕ) : Type 0 where
  digits : List ℕ
  text : decimals_text n ≡ byte "." ∷ digits
  are : AreDecimals digits n

decimals : (n : ℕ) → n < 1000 → eqb n 0 ≡ false → Decimals n
unfolding decimals_text
decimals n h some = by_tests (eqb (n % 100) 0) (eqb (n % 10) 0) refl refl
  where
    by_tests : (a b : Bool) → eqb (n % 100) 0 ≡ a → eqb (n % 10) 0 ≡ b → Decimals n
    by_tests true b e f = record {
      digits = (48 + n / 100) ∷ [];
      text = rw (some, e) refl;
      are = tenths n h (grind (arith, nat_tests));
    }
    by_tests false true e f = record {
      digits = two_digits (n / 10);
      text = rw (some, e, f) refl;
      are = hundredths n h (grind (arith, nat_tests));
    }
    by_tests false false e f = record {
      digits = (48 + n / 100) ∷ two_digits (n % 100);
      text = rw (some, e, f) refl;
      are = all_thousandths n h;
    }

no_decimals : (n : ℕ) → eqb n 0 ≡ true → decimals_text n ≡ []
unfolding decimals_text
no_decimals n e = rw e refl

decimals_solid : (n : ℕ) → n < 1000 → Solid (decimals_text n)
decimals_solid n h = by_test (eqb n 0) refl
  where
    by_test : (b : Bool) → eqb n 0 ≡ b → Solid (decimals_text n)
    by_test true e = rw (no_decimals n e) tt
    by_test false e = let d = decimals n h e in rw d.text (refl, digits_solid d.digits d.are.digits)

-- ---- what comes before a colon or a point

-- the index of the first byte `mark`; the text's length if there is none
abbrev mark_at : ℕ → List ℕ → ℕ
mark_at mark text = position_or_len (λ c. c == mark) text

-- a byte that is no digit
abbrev IsNoDigit : ℕ → Type 0
IsNoDigit mark = (c : ℕ) → is_digit c ≡ true → eqb c mark ≡ false

colon_no_digit : IsNoDigit 58
colon_no_digit c h = grind (arith, nat_tests)

point_no_digit : IsNoDigit 46
point_no_digit c h = grind (arith, nat_tests)

one_more : {a b : ℕ} → a ≡ b → 1 + a ≡ suc b
one_more h = omega (arith, h)

same_mark : (mark : ℕ) → eqb mark mark ≡ true
same_mark mark = grind (arith, nat_tests)

-- the first `mark` comes right after the digits
mark_after : (mark : ℕ) → IsNoDigit mark → (ds rest : List ℕ) → list_all is_digit ds ≡ true
    → mark_at mark (ds ++ mark ∷ rest) ≡ length ds
mark_after mark other [] rest h = rw (same_mark mark) refl
mark_after mark other (c ∷ cs) rest h =
    let p = and_parts (is_digit c) (list_all is_digit cs) h in
    rw (other c p.0) (one_more (mark_after mark other cs rest p.1))

no_mark : (mark : ℕ) → IsNoDigit mark → (ds : List ℕ) → list_all is_digit ds ≡ true → mark_at mark ds ≡ length ds
no_mark mark other [] h = refl
no_mark mark other (c ∷ cs) h =
    let p = and_parts (is_digit c) (list_all is_digit cs) h in
    rw (other c p.0) (one_more (no_mark mark other cs p.1))

-- digits with a mark and more after them are not the whole text
not_all : (ds : List ℕ) (mark : ℕ) (rest : List ℕ) → eqb (length ds) (length (ds ++ mark ∷ rest)) ≡ false
not_all ds mark rest =
    let more : length (ds ++ mark ∷ rest) ≡ length ds + length (mark ∷ rest) = length-append ds (mark ∷ rest) in
    let one : length (mark ∷ rest) ≡ 1 + length rest = omega arith in
    rw more (grind (arith, nat_tests))

all_of : (ds : List ℕ) → eqb (length ds) (length ds) ≡ true
all_of ds = grind (arith, nat_tests)

-- ---- seconds

-- seconds and `n` thousandths are read back from digits and decimals
seconds_back : (most s n : ℕ) (ds : List ℕ) → list_all is_digit ds ≡ true → short_number most ds ≡ Some s → n < 1000
    → milliseconds_of most (ds ++ decimals_text n) ≡ Some (1000 * s + n)
unfolding milliseconds_of
seconds_back most s n ds h e few = by_test (eqb n 0) refl
  where
    by_test : (b : Bool) → eqb n 0 ≡ b → milliseconds_of most (ds ++ decimals_text n) ≡ Some (1000 * s + n)
    by_test true none =
        let is : 1000 * s + 0 ≡ 1000 * s + n = grind (arith, nat_tests) in
        rw (
          no_decimals n none,
          append-nil ds,
          no_mark 46 point_no_digit ds h,
          all_of ds,
          take_all (length ds) ds (omega arith),
          e,
        ) (ap Some is)
    by_test false some =
        let d = decimals n few some in
        rw (
          d.text,
          mark_after 46 point_no_digit ds d.digits h,
          not_all ds 46 d.digits,
          taken ds (46 ∷ d.digits),
          dropped_one ds 46 d.digits,
          e,
          d.are.back,
        ) refl

-- ---- the base time

-- the seconds of a base time as they are written, with decimals
abbrev seconds_of : ℕ → List ℕ
seconds_of base = two_digits (base % 60000 / 1000) ++ decimals_text (base % 1000)

base_seconds_back : (base : ℕ) → milliseconds_of 2 (seconds_of base) ≡ Some (base % 60000)
base_seconds_back base =
    let few : base % 60000 / 1000 < 100 = omega arith in
    let part : base % 1000 < 1000 = omega arith in
    let is : 1000 * (base % 60000 / 1000) + base % 1000 ≡ base % 60000 = omega arith in
    seconds_back 2 (base % 60000 / 1000) (base % 1000) (two_digits (base % 60000 / 1000))
    (two_digits_are (base % 60000 / 1000) few) (two_digits_back 2 (base % 60000 / 1000) (omega arith) few) part
    ∙ ap Some is

base_back : (base : ℕ) → base ≤ 59999999 → base_of (base_text base) ≡ Some base
unfolding base_of base_text
base_back base h = by_seconds (eqb (base % 60000) 0) refl
  where
    minutes : ℕ
    minutes = base / 60000

    few : minutes ≤ 999
    few = omega arith

    ds : List ℕ
    ds = decimal minutes

    by_seconds : (whole : Bool) → eqb (base % 60000) 0 ≡ whole → base_of (base_text base) ≡ Some base
    by_seconds true e =
        let none : base % 60000 ≡ 0 = grind (arith, nat_tests) in
        let is : 60000 * minutes + 0 ≡ base = omega (arith, none) in
        rw (
          e,
          append-nil ds,
          no_mark 58 colon_no_digit ds (are_digits minutes few),
          all_of ds,
          take_all (length ds) ds (omega arith),
          number_back minutes few,
        ) (ap Some is)
    by_seconds false e =
        let below : ltb (base % 60000) 60000 ≡ true = grind (arith, nat_tests) in
        let is : 60000 * minutes + base % 60000 ≡ base = omega arith in
        rw (
          e,
          mark_after 58 colon_no_digit ds (seconds_of base) (are_digits minutes few),
          not_all ds 58 (seconds_of base),
          taken ds (58 ∷ seconds_of base),
          dropped_one ds 58 (seconds_of base),
          number_back minutes few,
          base_seconds_back base,
          below,
        ) (ap Some is)

base_solid : (base : ℕ) → base ≤ 59999999 → Solid (base_text base)
unfolding base_text
base_solid base h = by_seconds (eqb (base % 60000) 0) refl
  where
    minutes : Solid (decimal (base / 60000))
    minutes = decimal_solid (base / 60000) (omega arith)

    seconds : Solid (seconds_of base)
    seconds = solid_append (two_digits (base % 60000 / 1000)) (decimals_text (base % 1000))
        (digits_solid (two_digits (base % 60000 / 1000)) (two_digits_are (base % 60000 / 1000) (omega arith)))
        (decimals_solid (base % 1000) (omega arith))

    by_seconds : (whole : Bool) → eqb (base % 60000) 0 ≡ whole → Solid (base_text base)
    by_seconds true e = rw (e, append-nil (decimal (base / 60000))) minutes
    by_seconds false e =
        rw e (solid_append (decimal (base / 60000)) (byte ":" ∷ seconds_of base) minutes (refl, seconds))

some_before : (xs ys : List ℕ) → 0 < length xs → 0 < length (xs ++ ys)
some_before xs ys h = omega (arith, h, length-append xs ys)

base_some : (base : ℕ) → base ≤ 59999999 → 0 < length (base_text base)
unfolding base_text
base_some base h = some_before (decimal (base / 60000)) _ (decimal_nonempty (base / 60000) (omega arith))

-- ---- the increment

increment_back : (increment : ℕ) → increment ≤ 999999
    → milliseconds_of 3 (increment_text increment) ≡ Some increment
unfolding increment_text
increment_back increment h =
    let few : increment / 1000 ≤ 999 = omega arith in
    let part : increment % 1000 < 1000 = omega arith in
    let is : 1000 * (increment / 1000) + increment % 1000 ≡ increment = omega arith in
    seconds_back 3 (increment / 1000) (increment % 1000) (decimal (increment / 1000))
    (are_digits (increment / 1000) few) (number_back (increment / 1000) few) part
    ∙ ap Some is

increment_solid : (increment : ℕ) → increment ≤ 999999 → Solid (increment_text increment)
unfolding increment_text
increment_solid increment h = solid_append (decimal (increment / 1000)) (decimals_text (increment % 1000))
    (decimal_solid (increment / 1000) (omega arith)) (decimals_solid (increment % 1000) (omega arith))

increment_some : (increment : ℕ) → increment ≤ 999999 → 0 < length (increment_text increment)
unfolding increment_text
increment_some increment h =
    some_before (decimal (increment / 1000)) _ (decimal_nonempty (increment / 1000) (omega arith))

-- ---- the level

-- the three words of a level, each read back as its number
pub level_back : (moves base increment : ℕ) → moves ≤ 999 → base ≤ 59999999 → increment ≤ 999999
    → level_of (level_text (record { moves = moves; base = base; increment = increment }))
    ≡ Some (record { moves = moves; base = base; increment = increment })
unfolding level_reading level_text
level_back moves base increment few_moves few_seconds few =
    let A : List ℕ = decimal moves in
    let B : List ℕ = base_text base in
    let C : List ℕ = increment_text increment in
    let a = decimal_solid moves few_moves in
    let b = base_solid base few_seconds in
    let c = increment_solid increment few in
    let some : 0 < length C = increment_some increment few in
    let is_there : eqb (length C) 0 ≡ false = grind (arith, nat_tests, some) in
    let last : without_front_blanks C ≡ C = ap without_front_blanks (sym (append-nil C))
    ∙ front_solid C [] some c ∙ append-nil C in
    rw (
      front_solid A (byte " " ∷ (B ++ byte " " ∷ C)) (decimal_nonempty moves (omega arith)) a,
      argument_before A (B ++ byte " " ∷ C) a,
      front_solid B (byte " " ∷ C) (base_some base few_seconds) b,
      argument_before B C b,
      last,
      is_there,
      argument_whole C c,
      word_before A (B ++ byte " " ∷ C) a,
      word_before B C b,
      word_whole C c,
      number_back moves few_moves,
      base_back base few_seconds,
      increment_back increment few,
    ) refl
