-- If a byte of words comes at an offset, the next token there is the word that begins with it. So code may split words
-- off directly, without `next_token` (next_word, some_word).
use Rattle.std.proofs.Common.{◌≡◌, ℕ, ◌<◌, ◌≤◌, Bool, true, false, List, [], ◌∷◌, length, get_or, take, drop, refl, sym, ap, subst, ◌-◌, ◌∙◌, arith}
use Rattle.std.proofs.{lemmas.List.take_rest}
use Rattle.std.specs.{List.prefix_len, List.take_while}
use Rattle.pgn_tokens.specs.Tokens.{Word, is_word_byte, token_at, begins_line}
use Rattle.pgn_tokens.proofs.{TokenKinds.begins_word, Walk.NextToken, Walk.next_token}

-- the first token of a text that begins with a byte of words is the word there; the text is given as the code has it,
-- by its first byte and the others
word_first : (begins : Bool) (xs : List ℕ) → 1 ≤ length xs → is_word_byte (get_or xs 0 0) ≡ true
    → (Word (take_while is_word_byte xs), drop (prefix_len is_word_byte xs) xs)
    ≡ token_at begins (get_or xs 0 0) (take (length xs - 1) (drop 1 xs))
word_first begins [] some h = absurd (omega (arith, some))
word_first begins (c ∷ rest) some h =
    sym (ap (token_at begins c) (take_rest (c ∷ rest) 1) ∙ begins_word begins c rest h)

-- so the next token at the offset `at` is this word, and `tail` is the text after it. `xs` is the text from `at` on
pub next_word : (text : List ℕ) (at : ℕ) (xs word tail : List ℕ) → at ≤ length text
    → xs ≡ take (length text - at) (drop at text) → 1 ≤ length xs → is_word_byte (get_or xs 0 0) ≡ true
    → word ≡ take_while is_word_byte xs → tail ≡ drop (prefix_len is_word_byte xs) xs
    → NextToken text at (Word word) tail
next_word text at xs word tail h is some first taken left =
    next_token text at (begins_line text at) xs h refl is some (Word word) tail
    (ap (λ w. (Word w, tail)) taken ∙ ap (λ r. (Word (take_while is_word_byte xs), r)) left
    ∙ word_first (begins_line text at) xs some first)

-- if some bytes at a text's front pass a test, its first byte does
run_first : (p : ℕ → Bool) (xs : List ℕ) → 0 < length (take_while p xs)
    → (1 ≤ length xs) × (p (get_or xs 0 0) ≡ true)
run_first p [] some = absurd (omega (arith, some))
run_first p (c ∷ xs) some = by_test (p c) refl
  where
    by_test : (t : Bool) → p c ≡ t → (1 ≤ length (c ∷ xs)) × (p c ≡ true)
    by_test true e = (omega arith, e)
    by_test false e = absurd (omega (arith, rw e at some))

-- the same if the word split off isn't empty
pub some_word : (text : List ℕ) (at : ℕ) (xs word tail : List ℕ) → at ≤ length text
    → xs ≡ take (length text - at) (drop at text) → word ≡ take_while is_word_byte xs
    → tail ≡ drop (prefix_len is_word_byte xs) xs → 0 < length word → NextToken text at (Word word) tail
some_word text at xs word tail h is taken left some =
    let first = run_first is_word_byte xs (subst (λ w. 0 < length w) taken some) in
    next_word text at xs word tail h is first.0 first.1 taken left
