-- For `short_number`, whose loop reads a text of at most nine digits from left to right. After i digits the value is
-- less than 10 ^ i, so it is small enough for the next step (small_number) and within the limit at the end
-- (number_bound). At the end it is the number of the definition (number_is), as the library folds over digits in the
-- same way.
use Rattle.std.proofs.Common.{◌≡◌, ℕ, ◌+◌, ◌-◌, ◌*◌, ◌^◌, ◌<◌, ◌≤◌, true, nat_lt, nat_le, List, [], ◌∷◌, length, drop, Some, sym, ap, ◌∙◌, arith, rules}
use Rattle.std.specs.List.{list_all}
use Rattle.std.proofs.{Math.Nat.pow-le-pow_right, lemmas.Bool.Decides.nat_tests, lemmas.Grind.common_steps, lemmas.Str.Parse.IsNumeralModel, lemmas.Str.Parse.numerals_by_fold}
use Rattle.byte_devices.specs.Bytes.{is_digit}
use Rattle.text_lines.specs.Words.{short_number}

-- the loop's value before it takes the digit at offset i, which has i digits: with at most nine digits in all it is
-- less than 10 ^ 8, so that 10 * n + 9 still fits into a `u32`
pub small_number : (n i k most : ℕ) → n < 10 ^ i → i < k → most ≤ 9 → k ≤ most → n < 10 ^ 8
small_number n i k most h lt nine le = let p : 10 ^ i ≤ 10 ^ 8 =
    (let ten : 0 < 10 = omega arith in let few : i ≤ 8 = omega arith in pow-le-pow_right ten few) in omega arith

-- a number of k digits is less than 10 ^ most, if k is at most `most`
pub number_bound : (n k most : ℕ) → n < 10 ^ k → k ≤ most → n < 10 ^ most
number_bound n k most h le =
    let ten : 0 < 10 = omega arith in
    let p : 10 ^ k ≤ 10 ^ most = pow-le-pow_right ten le in
    omega arith

-- the loop's value after these digits, given as bytes (48 is `0`), if it was n before them: each digit makes n to 10 *
-- n + digit
abbrev pub value_after : ℕ → List ℕ → ℕ
value_after n [] = n
value_after n (c ∷ cs) = value_after (10 * n + (c - 48)) cs

-- of a text of digits alone the loop's value, begun with 0, is the library's value of the numeral
numeral : IsNumeralModel (λ ds. list_all is_digit ds ≡ true) (value_after 0)
numeral = numerals_by_fold _ (search rules) value_after (search rules)

-- the loop's end: its offset i is past the last byte, so what the invariant says of the bytes left (`rest`, `digits`)
-- gives that n is the whole number and that all bytes are digits
pub number_is : (most i n : ℕ) (text : List ℕ) → 0 < length text → length text ≤ most → length text ≤ i
    → value_after n (drop i text) ≡ value_after 0 text → list_all is_digit (drop i text) ≡ list_all is_digit text
    → Some n ≡ short_number most text
number_is most i n text some few over rest digits =
    let none : drop i text ≡ [] = grind (arith, common_steps) in
    let all : list_all is_digit text ≡ true = sym digits ∙ ap (list_all is_digit) none in
    let value : n ≡ value_after 0 text = sym (ap (value_after n) none) ∙ rest in
    let t0 : nat_lt 0 (length text) ≡ true = grind (arith, nat_tests) in
    let t1 : nat_le (length text) most ≡ true = grind (arith, nat_tests) in
    rw (t0, t1, all) (ap Some (value ∙ numeral.same text (numeral.to text all)))
