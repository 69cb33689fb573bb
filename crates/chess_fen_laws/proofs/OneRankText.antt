-- The text that is written for a rank has no two digits side by side (rank_text_is; by induction over the squares), and
-- is the only such text that denotes the rank (only_rank_text; by induction over the text's bytes). In `row_text n row`
-- n is the number of empty squares that come before the squares `row`.
use Rattle.std.proofs.Common.{◌≡◌, ℕ, zero, suc, ◌+◌, ◌<◌, ◌≤◌, true, false, not, List, [], ◌∷◌, ◌++◌, length, Option, Some, None, refl, sym, ap, subst, ◌∙◌, inl, inr, arith, ◌&&◌, replicate}
use Rattle.std.specs.List.{AllZip}
use Rattle.std.proofs.{lemmas.Bool.and_parts, lemmas.Bool.Decides.nat_tests}
use Rattle.chess_base.specs.{declared.man.Man.Man, Letters.letter}
use Rattle.byte_devices.specs.Bytes.{is_digit}
use Rattle.chess_fen.specs.{Denotation.StandsFor, Writing.fen_rank, shared.Rows.run_text, shared.Rows.row_text}
use Rattle.chess_fen.proofs.shared.Ranks.{joined, rank_denotes, row_is, white_range}
use Rattle.chess_fen_laws.specs.RankTexts.{digits_apart, IsRankText}

-- a piece's letter is no digit
no_digit : (man : Man) → is_digit (letter man) ≡ false
no_digit man = let range = white_range man.kind in grind (arith, nat_tests, range.0)

-- n empty squares at the front add n to those before
empty_run : (n m : ℕ) (row : List (Option Man)) → row_text m (replicate n None ++ row) ≡ row_text (n + m) row
empty_run zero m row = ap (λ k. row_text k row) (omega arith)
empty_run (suc n) m row =
    let more : n + suc m ≡ suc n + m = omega arith in
    empty_run n (suc m) row ∙ ap (λ k. row_text k row) more

-- a run of n empty squares is written as one digit, if n isn't 0
run_is : (n : ℕ) → 0 < n → run_text n ≡ (48 + n) ∷ []
run_is zero h = absurd (omega (arith, h))
run_is (suc n) h = refl

-- a run of at most eight empty squares is written as a digit
digit_is : (n : ℕ) → n ≤ 8 → is_digit (48 + n) ≡ true
digit_is n h = grind (arith, nat_tests)

-- a text without two digits side by side has none after its first byte
apart_tail : (c : ℕ) (cs : List ℕ) → digits_apart (c ∷ cs) ≡ true → digits_apart cs ≡ true
apart_tail c [] h = refl
apart_tail c (d ∷ cs) h = (and_parts (not (is_digit c && is_digit d)) (digits_apart (d ∷ cs)) h).1

-- ---- only one text

-- by induction over the bytes: a letter denotes its piece; a digit for a run, which is a whole one, since no digit
-- follows (`by_next`)
only_text : (text : List ℕ) (parts : List (List (Option Man))) → AllZip StandsFor text parts → digits_apart text ≡ true
    → text ≡ row_text 0 (joined parts)
only_text [] [] h apart = refl
only_text [] (part ∷ parts) h apart = absurd h
only_text (c ∷ cs) [] h apart = absurd h
only_text (c ∷ cs) (first ∷ parts) h apart =
    by_stands h.0 (only_text cs parts h.1 (apart_tail c cs apart))
  where
    by_next : (n : ℕ) → 0 < n → n ≤ 8 → c ≡ 48 + n → (cs : List ℕ) (parts : List (List (Option Man)))
        → AllZip StandsFor cs parts → digits_apart (c ∷ cs) ≡ true → cs ≡ row_text 0 (joined parts)
        → c ∷ cs ≡ row_text n (joined parts)
    by_next n some few digit [] [] none apart same = ap (λ k. k ∷ []) digit ∙ sym (run_is n some)
    by_next n some few digit [] (part ∷ parts) stand apart same = absurd stand
    by_next n some few digit (d ∷ ds) [] stand apart same = absurd stand
    by_next n some few digit (d ∷ ds) (second ∷ parts) (inl m, more) apart same =
        let rest_is : joined (second ∷ parts) ≡ Some m.0 ∷ joined parts = ap (λ xs. xs ++ joined parts) m.2 in
        let tail : d ∷ ds ≡ letter m.0 ∷ row_text 0 (joined parts) = same ∙ ap (row_text 0) rest_is in
        ap (λ k. k ∷ d ∷ ds) digit ∙ ap (λ xs. (48 + n) ∷ xs) tail
        ∙ ap (λ xs. xs ++ letter m.0 ∷ row_text 0 (joined parts)) (sym (run_is n some))
        ∙ ap (row_text n) (sym rest_is)
    by_next n some few digit (d ∷ ds) (second ∷ parts) (inr e, more) apart same =
        let one : is_digit c ≡ true = ap is_digit digit ∙ digit_is n few in
        let two : is_digit d ≡ true = ap is_digit e.3 ∙ digit_is e.0 e.2 in
        let no = (and_parts (not (is_digit c && is_digit d)) (digits_apart (d ∷ ds)) apart).0 in
        let clash : not (true && true) ≡ true = sym
        (ap (λ t. not (t && is_digit d)) one ∙ ap (λ t. not (true && t)) two) ∙ no in
        absurd (cc)

    by_stands : StandsFor c first → cs ≡ row_text 0 (joined parts) → c ∷ cs ≡ row_text 0 (joined (first ∷ parts))
    by_stands (inl m) same =
        ap (λ k. k ∷ cs) m.1 ∙ ap (λ xs. letter m.0 ∷ xs) same
        ∙ ap (row_text 0) (sym (ap (λ xs. xs ++ joined parts) m.2))
    by_stands (inr e) same =
        let sum : e.0 + 0 ≡ e.0 = omega arith in
        by_next e.0 e.1 e.2 e.3 cs parts h.1 apart same
        ∙ ap (λ k. row_text k (joined parts)) (sym sum)
        ∙ sym (empty_run e.0 0 (joined parts))
        ∙ ap (row_text 0) (sym (ap (λ xs. xs ++ joined parts) e.4))

-- ---- and it is one

-- a letter in front puts no two digits side by side
letter_apart : (man : Man) (text : List ℕ) → digits_apart text ≡ true → digits_apart (letter man ∷ text) ≡ true
letter_apart man [] h = refl
letter_apart man (d ∷ rest) h = rw (no_digit man, h) refl

-- any byte in front of a letter puts no two digits side by side
before_letter : (c : ℕ) (man : Man) (text : List ℕ) → digits_apart (letter man ∷ text) ≡ true
    → digits_apart (c ∷ letter man ∷ text) ≡ true
before_letter c man text h = rw (no_digit man, h) (grind arith)

-- the text that is written for squares has no two digits side by side
apart_row : (n : ℕ) (row : List (Option Man)) → digits_apart (row_text n row) ≡ true
apart_row zero [] = refl
apart_row (suc n) [] = refl
apart_row n (None ∷ row) = apart_row (suc n) row
apart_row zero (Some man ∷ row) = letter_apart man (row_text 0 row) (apart_row 0 row)
apart_row (suc n) (Some man ∷ row) =
    before_letter (48 + suc n) man (row_text 0 row) (letter_apart man (row_text 0 row) (apart_row 0 row))

-- the text that is written for eight squares denotes them, without two digits side by side
pub rank_text_is : (row : List (Option Man)) → length row ≡ 8 → IsRankText row (fen_rank row)
rank_text_is row h = record {
  denotes = rank_denotes row h;
  apart = subst (λ text. digits_apart text ≡ true) (row_is row 0) (apart_row 0 row);
}

-- no other text does
pub only_rank_text : (row : List (Option Man)) (text : List ℕ) → IsRankText row text → text ≡ fen_rank row
only_rank_text row text h = only_text text h.denotes.0 h.denotes.1 h.apart ∙ ap (row_text 0) (sym h.denotes.2)
    ∙ row_is row 0
