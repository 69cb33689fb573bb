-- A text that is parsed as a level has numbers within the ranges of levels (`read_in_range`), since a number that is
-- parsed has at most three digits. So what is written of the level is parsed as the same level (read_back), by
-- LevelTexts.level_back.
use Rattle.std.proofs.Common.{◌≡◌, ℕ, zero, suc, ◌+◌, ◌-◌, ◌*◌, ◌^◌, ◌<◌, ◌≤◌, Bool, true, false, List, length, take, drop, Option, None, Some, Err, refl, ap, subst, arith, ◌==◌, ◌&&◌, ◌||◌, nat_lt, nat_le, if◌then◌else◌, option_and_then, option_map}
use Rattle.std.specs.{List.list_all, List.position_or_len, Result.result_ok, Str.Parse.digits_value}
use Rattle.std.proofs.{lemmas.Bool.Decides.nat_tests, lemmas.Str.Parse.digits_value_short}
use Rattle.byte_devices.specs.Bytes.{byte, is_digit}
use Rattle.text_lines.specs.{Lines.without_front_blanks, Words.short_number, Words.word_of, Words.argument_of}
use Rattle.cecp_engine.specs.Levels.{LevelSeen, base_of, level_of, level_reading, level_text, level_with, milliseconds_of, thousandths_of}
use Rattle.cecp_engine.specs.declared.level_fault.LevelFault.TheVariants.{Words}
use Rattle.chess_match_laws.proofs.LevelTexts.{numeral, level_back}

same_value : {a b : ℕ} → Some a ≡ Some b → a ≡ b
same_value {a} {b} e = ap (λ (o : Option ℕ). or_zero o) e
  where
    or_zero : Option ℕ → ℕ
    or_zero None = 0
    or_zero (Some x) = x

-- ---- numbers

-- a number of at most `k` digits is below 10 ^ k
number_below : (k most : ℕ) (text : List ℕ) (n : ℕ) → length text ≤ k → short_number most text ≡ Some n → n < 10 ^ k
number_below k most text n few e =
    by_tests (nat_lt 0 (length text)) (nat_le (length text) most) (list_all is_digit text) refl e
  where
    by_tests : (a b c : Bool) → list_all is_digit text ≡ c
        → (if a && b && c then Some (digits_value 10 text) else None) ≡ Some n → n < 10 ^ k
    by_tests true true true h e =
        let is : digits_value 10 text ≡ n = same_value e in
        let below : digits_value 10 text < 10 ^ k = digits_value_short numeral text k h few in
        omega (arith, is, below)
    by_tests true true false h e = cc
    by_tests true false c h e = cc
    by_tests false b c h e = cc

-- a number that is read has at least one digit, and at most `most`
few_digits : (most : ℕ) (text : List ℕ) (n : ℕ) → short_number most text ≡ Some n
    → (0 < length text) × (length text ≤ most)
few_digits most text n e =
    by_tests (nat_lt 0 (length text)) (nat_le (length text) most) (list_all is_digit text) refl refl e
  where
    by_tests : (a b c : Bool) → nat_lt 0 (length text) ≡ a → nat_le (length text) most ≡ b
        → (if a && b && c then Some (digits_value 10 text) else None) ≡ Some n
        → (0 < length text) × (length text ≤ most)
    by_tests true true c some few e = (grind (arith, nat_tests), grind (arith, nat_tests))
    by_tests true false c some few e = cc
    by_tests false b c some few e = cc

number_small : (most : ℕ) (text : List ℕ) (n : ℕ) → short_number most text ≡ Some n → n < 10 ^ most
number_small most text n e = number_below most most text n (few_digits most text n e).1 e

-- ---- seconds

thousandths_small : (text : List ℕ) (n : ℕ) → thousandths_of text ≡ Some n → n ≤ 999
unfolding thousandths_of
thousandths_small text n e = by_value (short_number 3 text) refl e
  where
    at : (k v : ℕ) → length text ≡ k → 0 < k → k ≤ 3 → short_number 3 text ≡ Some v → v * 10 ^ (3 - k) ≤ 999
    at zero v l some few is = absurd (omega arith)
    at (suc zero) v l some few is = let b : v < 10 ^ 1 = number_below 1 3 text v (omega (arith, l)) is in omega (arith, b)
    at (suc (suc zero)) v l some few is =
        let b : v < 10 ^ 2 = number_below 2 3 text v (omega (arith, l)) is in omega (arith, b)
    at (suc (suc (suc zero))) v l some few is =
        let b : v < 10 ^ 3 = number_below 3 3 text v (omega (arith, l)) is in omega (arith, b)
    at (suc (suc (suc (suc k)))) v l some few is = absurd (omega arith)

    by_value : (o : Option ℕ) → short_number 3 text ≡ o
        → option_map (λ v. v * 10 ^ (3 - length text)) o ≡ Some n → n ≤ 999
    by_value None is e = cc
    by_value (Some v) is e =
        let d = few_digits 3 text v is in
        let b : v * 10 ^ (3 - length text) ≤ 999 = at (length text) v refl d.0 d.1 is in
        let same : v * 10 ^ (3 - length text) ≡ n = same_value e in
        omega (arith, b, same)

part_small : (whole : Bool) (text : List ℕ) (n : ℕ) → (if whole then Some 0 else thousandths_of text) ≡ Some n → n ≤ 999
part_small true text n e = let z : 0 ≡ n = same_value e in omega (arith, z)
part_small false text n e = thousandths_small text n e

-- the index of the first byte `mark`; the text's length if there is none
abbrev mark_at : ℕ → List ℕ → ℕ
mark_at mark text = position_or_len (λ c. c == mark) text

-- seconds of at most three digits and thousandths are at most 999,999 milliseconds
seconds_small : (s t : Option ℕ) (n : ℕ) → ((v : ℕ) → s ≡ Some v → v < 10 ^ 3) → ((v : ℕ) → t ≡ Some v → v ≤ 999)
    → option_and_then (λ seconds. option_and_then (λ part. Some (1000 * seconds + part)) t) s ≡ Some n → n ≤ 999999
seconds_small None t n h k e = cc
seconds_small (Some s) None n h k e = cc
seconds_small (Some s) (Some t) n h k e =
    let seconds : s < 10 ^ 3 = h s refl in
    let part : t ≤ 999 = k t refl in
    let same : 1000 * s + t ≡ n = same_value e in
    omega (arith, seconds, part, same)

milliseconds_small : (text : List ℕ) (n : ℕ) → milliseconds_of 3 text ≡ Some n → n ≤ 999999
unfolding milliseconds_of
milliseconds_small text n e =
    let point : ℕ = mark_at (byte ".") text in
    seconds_small (short_number 3 (take point text))
    (if point == length text then Some 0 else thousandths_of (drop (point + 1) text)) n
    (λ v is. number_small 3 (take point text) v is)
    (λ v is. part_small (point == length text) (drop (point + 1) text) v is) e

-- minutes of at most three digits and seconds below 60
below_minute : (b : Bool) (m s n : ℕ) → nat_lt s 60000 ≡ b → m < 10 ^ 3
    → (if b then Some (60000 * m + s) else None) ≡ Some n → n ≤ 59999999
below_minute true m s n below minutes e =
    let same : 60000 * m + s ≡ n = same_value e in
    let less : s < 60000 = grind (arith, nat_tests) in
    omega (arith, minutes, same, less)
below_minute false m s n below minutes e = cc

-- minutes of at most three digits, and seconds if there are any
minutes_small : (m s : Option ℕ) (n : ℕ) → ((v : ℕ) → m ≡ Some v → v < 10 ^ 3)
    → option_and_then (λ minutes. option_and_then (λ milliseconds. if nat_lt milliseconds 60000
    then Some (60000 * minutes + milliseconds) else None) s) m ≡ Some n → n ≤ 59999999
minutes_small None s n h e = cc
minutes_small (Some m) None n h e = cc
minutes_small (Some m) (Some s) n h e = below_minute (nat_lt s 60000) m s n refl (h m refl) e

base_small : (text : List ℕ) (n : ℕ) → base_of text ≡ Some n → n ≤ 59999999
unfolding base_of
base_small text n e =
    let colon : ℕ = mark_at (byte ":") text in
    minutes_small (short_number 3 (take colon text))
    (if colon == length text then Some 0 else milliseconds_of 2 (drop (colon + 1) text)) n
    (λ v is. number_small 3 (take colon text) v is) e

-- ---- the level

-- the numbers of a level are within the ranges of levels
record IsInRange (level : LevelSeen) : Type 0 where
  moves : level.moves ≤ 999
  base : level.base ≤ 59999999
  increment : level.increment ≤ 999999

same_level : {a b : LevelSeen} → Some a ≡ Some b → a ≡ b
same_level {a} {b} e = ap (λ (o : Option LevelSeen). or_this o) e
  where
    or_this : Option LevelSeen → LevelSeen
    or_this None = a
    or_this (Some x) = x

-- a level put together from a number of moves, a base and an increment that are within the ranges
with_small : (m b i : Option ℕ) (level : LevelSeen) → ((n : ℕ) → m ≡ Some n → n ≤ 999)
    → ((n : ℕ) → b ≡ Some n → n ≤ 59999999) → ((n : ℕ) → i ≡ Some n → n ≤ 999999)
    → result_ok (level_with m b i) ≡ Some level → IsInRange level
with_small None b i level h k l e = cc
with_small (Some m) None i level h k l e = cc
with_small (Some m) (Some b) None level h k l e = cc
with_small (Some m) (Some b) (Some i) level h k l e =
    subst IsInRange (same_level e) (record { moves = h m refl; base = k b refl; increment = l i refl })

read_in_range : (text : List ℕ) (level : LevelSeen) → level_of text ≡ Some level → IsInRange level
unfolding level_reading
read_in_range text level e = by_test (length third == 0 || nat_lt 0 (length (argument_of third))) e
  where
    first : List ℕ
    first = without_front_blanks text

    second : List ℕ
    second = argument_of first

    third : List ℕ
    third = argument_of second

    by_test : (b : Bool) → result_ok (if b then Err Words else level_with (short_number 3 (word_of first))
        (base_of (word_of second)) (milliseconds_of 3 (word_of third))) ≡ Some level → IsInRange level
    by_test true e = cc
    by_test false e = with_small _ _ _ level
        (λ n is. let s : n < 10 ^ 3 = number_small 3 (word_of first) n is in omega (arith, s))
        (λ n is. base_small (word_of second) n is) (λ n is. milliseconds_small (word_of third) n is) e

pub read_back : (text : List ℕ) (level : LevelSeen) → level_of text ≡ Some level
    → level_of (level_text level) ≡ Some level
read_back text level e =
    let is = read_in_range text level e in
    level_back level.moves level.base level.increment is.moves is.base is.increment
