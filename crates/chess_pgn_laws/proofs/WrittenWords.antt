-- Words as they are written in a game. A word is one token where a byte of no word follows (word_token), by the run of
-- bytes that may be in words. A number has a byte and only digits (decimal_some, decimal_digits), and its bytes, as
-- those of SAN, may be in words (number_bytes, san_bytes_in_word); a word that begins with a letter is a move
-- (move_kind).
use Rattle.std.proofs.Common.{◌≡◌, ℕ, ◌<◌, ◌≤◌, Bool, true, false, ◌&&◌, ◌||◌, eqb, List, [], ◌∷◌, ◌++◌, length, drop, refl, ap, ◌∙◌, inl, inr, arith, decimal, nat_le}
use Rattle.std.proofs.{lemmas.Bool.and_parts, lemmas.Bool.and_from, lemmas.Bool.or_cases, lemmas.Bool.Decides.nat_tests, lemmas.Fmt.decimal_is_IsNumeral, lemmas.Str.Parse.digit_from_value}
use Rattle.std.specs.{List.list_all, List.prefix_len, List.take_while, Str.Parse.AllDigits}
use Rattle.byte_devices.specs.Bytes.{is_digit, is_letter}
use Rattle.chess_pgn.specs.{declared.word_kind.WordKind.TheVariants.Move, laws.WordKinds.word_kind}
use Rattle.pgn_tokens.specs.Tokens.{Word, is_word_byte, token_at}
use Rattle.chess_text.specs.laws.Laws.{is_san_byte, begins_with_letter}
use Rattle.pgn_tokens.proofs.{shared.Bytes.run_drop, shared.Bytes.run_take, shared.Tokens.begins_word}
use Rattle.chess_pgn.proofs.shared.Words.{begins_as_move_kind}

-- ---- a run of bytes that pass

-- what a run takes of a text, and what it leaves
pub record Run (p : ℕ → Bool) (text run rest : List ℕ) : Type 0 where
  pub taken : take_while p text ≡ run
  pub left : drop (prefix_len p text) text ≡ rest

-- if each byte of a run passes, and the next doesn't, the run is taken whole
pub whole_run : (p : ℕ → Bool) (run : List ℕ) (d : ℕ) (rest : List ℕ) → list_all p run ≡ true → p d ≡ false
    → Run p (run ++ d ∷ rest) run (d ∷ rest)
whole_run p run d rest all ends =
    let stop : prefix_len p (d ∷ rest) ≡ 0 = rw ends refl in
    record { taken = run_take p run (d ∷ rest) all stop; left = run_drop p run (d ∷ rest) all stop }

-- ---- a word

pub word_token : (begins : Bool) (c : ℕ) (cs : List ℕ) (d : ℕ) (rest : List ℕ) → list_all is_word_byte (c ∷ cs) ≡ true
    → is_word_byte d ≡ false → token_at begins c (cs ++ d ∷ rest) ≡ (Word (c ∷ cs), d ∷ rest)
word_token begins c cs d rest all ends =
    let both = and_parts (is_word_byte c) (list_all is_word_byte cs) all in
    let run = whole_run is_word_byte (c ∷ cs) d rest all ends in
    begins_word begins c (cs ++ d ∷ rest) both.0
    ∙ ap (λ word. (Word word, drop (prefix_len is_word_byte (c ∷ (cs ++ d ∷ rest))) (c ∷ (cs ++ d ∷ rest)))) run.taken
    ∙ ap (λ left. (Word (c ∷ cs), left)) run.left

-- a word that begins with a letter is a move, not a number or marks
pub move_kind : (word : List ℕ) → begins_with_letter word ≡ true → word_kind word ≡ Move
move_kind [] h = absurd (cc)
move_kind (c ∷ cs) h =
    let high : nat_le 65 c ≡ true = elim (or_cases (nat_le 65 c && nat_le c 90) (nat_le 97 c && nat_le c 122) h) [
      | inl e ↦ (and_parts (nat_le 65 c) (nat_le c 90) e).0
      | inr e ↦ (let small : nat_le 97 c ≡ true = (and_parts (nat_le 97 c) (nat_le c 122) e).0 in
          grind (arith, nat_tests))
    ] in
    begins_as_move_kind (c ∷ cs) high

-- ---- numbers and SAN are words

pub list_all-weaker : (p q : ℕ → Bool) → ((c : ℕ) → p c ≡ true → q c ≡ true) → (text : List ℕ) → list_all p text ≡ true
    → list_all q text ≡ true
list_all-weaker p q h [] all = refl
list_all-weaker p q h (c ∷ cs) all =
    let both = and_parts (p c) (list_all p cs) all in
    and_from (q c) (list_all q cs) (h c both.0) (list_all-weaker p q h cs both.1)

-- digits as std defines them
all_digits : (text : List ℕ) → AllDigits 10 text → list_all is_digit text ≡ true
all_digits [] h = refl
all_digits (c ∷ cs) h =
    let range = digit_from_value c h.0 in
    let a : nat_le 48 c ≡ true = grind (arith, nat_tests) in
    let b : nat_le c 57 ≡ true = grind (arith, nat_tests) in
    and_from (is_digit c) (list_all is_digit cs) (and_from (nat_le 48 c) (nat_le c 57) a b) (all_digits cs h.1)

-- a decimal number up to 999,999 has only digits, and at least one (decimal_some)
pub decimal_digits : (n : ℕ) → n ≤ 999999 → list_all is_digit (decimal n) ≡ true
decimal_digits n h = all_digits (decimal n) (decimal_is_IsNumeral n (omega arith)).0.1

pub decimal_some : (n : ℕ) → n ≤ 999999 → 0 < length (decimal n)
decimal_some n h = (decimal_is_IsNumeral n (omega arith)).0.0

digit_in_word : (c : ℕ) → is_digit c ≡ true → is_word_byte c ≡ true
digit_in_word c h = by_letter (is_letter c) (is_digit c) h
  where
    by_letter : (a b : Bool) → b ≡ true
        → ((a || (b || eqb c 95))
        || (eqb c 43 || (eqb c 35
        || (eqb c 61 || (eqb c 45 || (eqb c 47 || (eqb c 33 || (eqb c 63 || (eqb c 58 || false))))))))) ≡ true
    by_letter true b e = refl
    by_letter false true e = refl
    by_letter false false e = cc

pub number_bytes : (text : List ℕ) → list_all is_digit text ≡ true → list_all is_word_byte text ≡ true
number_bytes = list_all-weaker is_digit is_word_byte digit_in_word

-- letter, digit, `+`, `#`, `=` and `-` among the bytes of words
among : (letter digit plus sharp equals dash under others : Bool) → (letter || digit || plus || sharp || equals || dash)
    ≡ true → ((letter || (digit || under)) || (plus || (sharp || (equals || (dash || others))))) ≡ true
among true digit plus sharp equals dash under others e = refl
among false true plus sharp equals dash under others e = refl
among false false plus sharp equals dash true others e = refl
among false false true sharp equals dash false others e = refl
among false false false true equals dash false others e = refl
among false false false false true dash false others e = refl
among false false false false false true false others e = refl
among false false false false false false false others e = cc

san_in_word : (c : ℕ) → is_san_byte c ≡ true → is_word_byte c ≡ true
san_in_word c h = among (is_letter c) (is_digit c) (eqb c 43) (eqb c 35) (eqb c 61) (eqb c 45) (eqb c 95)
    (eqb c 47 || (eqb c 33 || (eqb c 63 || (eqb c 58 || false)))) h

pub san_bytes_in_word : (text : List ℕ) → list_all (λ c. is_san_byte c) text ≡ true → list_all is_word_byte text ≡ true
san_bytes_in_word = list_all-weaker (λ c. is_san_byte c) is_word_byte san_in_word
