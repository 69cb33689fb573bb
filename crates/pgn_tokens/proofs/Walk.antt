-- Going from token to token. Each takes at least a byte (shorter), so a bound of as many tokens as bytes is never
-- reached (enough). So the tokens from an offset on are the first token there and then those from the offset after it
-- (token_more, next_token), which is nearer to the end; a fault is the last (last_token), and at the end there is none
-- (no_token).
use Rattle.std.proofs.Common.{◌≡◌, ℕ, zero, suc, ◌-◌, ◌<◌, ◌≤◌, Bool, true, false, eqb, List, [], ◌∷◌, ◌++◌, length, get_or, take, drop, refl, sym, ap, subst, ◌∙◌, inl, inr, ◌⊎◌, append_assoc, arith}
use Rattle.std.proofs.lemmas.Bool.Decides.{nat_tests}
use Rattle.std.proofs.lemmas.List.{length-append, length-drop, take-append-drop, get_or_at, drop_at, take_rest}
use Rattle.pgn_tokens.specs.Tokens.{Token, token_at, tokens_of, begins_line, tokens_from}
use Rattle.pgn_tokens.proofs.Cuts.{Left, token_left, token_ten}

-- what follows a token: nothing, or a rest before which is a byte that is 10 exactly where the token's first
-- is
record Tail (c : ℕ) (rest tail : List ℕ) : Type 0 where
  front : List ℕ
  last : ℕ
  is : c ∷ rest ≡ front ++ last ∷ tail
  ends : eqb last 10 ≡ eqb c 10

-- what is left after a token is nothing, or such a tail
abbrev Rest : ℕ → List ℕ → List ℕ → Type 0
Rest c rest tail = (tail ≡ []) ⊎ Tail c rest tail

-- what is left after the token that is read
token_rest : (begins : Bool) (c : ℕ) (rest : List ℕ) → Rest c rest (token_at begins c rest).1
token_rest begins c rest = by_test (eqb c 10) refl
  where
    by_left : eqb c 10 ≡ false → Left (c ∷ rest) (token_at begins c rest).1 → Rest c rest (token_at begins c rest).1
    by_left e (inl none) = inl none
    by_left e (inr k) = inr (record { front = k.front; last = k.last; is = k.is; ends = k.no_end ∙ sym e })

    by_test : (t : Bool) → eqb c 10 ≡ t → Rest c rest (token_at begins c rest).1
    by_test true e =
        let is : c ≡ 10 = grind (arith, nat_tests) in
        let same : (token_at begins c rest).1 ≡ rest = ap (λ b. (token_at begins b rest).1) is
        ∙ token_ten begins rest in
        inr (record { front = []; last = c; is = ap (λ xs. c ∷ xs) (sym same); ends = refl })
    by_test false e = by_left e (token_left begins c rest e)

-- a token takes at least a byte
pub shorter : (begins : Bool) (c : ℕ) (rest : List ℕ) → length (token_at begins c rest).1 ≤ length rest
shorter begins c rest = by_rest (token_rest begins c rest)
  where
    by_rest : Rest c rest (token_at begins c rest).1 → length (token_at begins c rest).1 ≤ length rest
    by_rest (inl e) = omega (arith, ap length e)
    by_rest (inr k) = omega (arith, simp length-append at (ap length k.is))

-- the bound on the number of tokens makes no difference, if it is at least the number of bytes
pub enough : (n m : ℕ) (begins : Bool) (text : List ℕ) → length text ≤ n → length text ≤ m
    → tokens_of n begins text ≡ tokens_of m begins text
unfolding tokens_of
enough zero zero begins text h k = refl
enough zero (suc m) begins [] h k = refl
enough zero (suc m) begins (c ∷ rest) h k = absurd (omega (arith, h))
enough (suc n) zero begins [] h k = refl
enough (suc n) zero begins (c ∷ rest) h k = absurd (omega (arith, k))
enough (suc n) (suc m) begins [] h k = refl
enough (suc n) (suc m) begins (c ∷ rest) h k =
    ap (λ tokens. (length (c ∷ rest), (token_at begins c rest).0) ∷ tokens)
    (enough n m (eqb c 10) (token_at begins c rest).1 (omega (arith, h, shorter begins c rest))
    (omega (arith, k, shorter begins c rest)))

pub none_left : (n : ℕ) (begins : Bool) → tokens_of n begins [] ≡ []
unfolding tokens_of
none_left zero begins = refl
none_left (suc n) begins = refl

-- where nothing is left there is no token
pub no_token : (text : List ℕ) (at : ℕ) → length (drop at text) < 1 → tokens_from text at ≡ []
unfolding tokens_from
no_token text at h = by_rest (drop at text) h
  where
    by_rest : (rest : List ℕ) → length rest < 1 → tokens_of (length text) (begins_line text at) rest ≡ []
    by_rest [] k = none_left (length text) (begins_line text at)
    by_rest (c ∷ rest) k = absurd (omega (arith, k))

-- the offset after a byte: how a line begins there, and what is from there on
at_cut : (before tail : List ℕ) (last : ℕ)
    → (drop (length (before ++ last ∷ tail) - length tail) (before ++ last ∷ tail) ≡ tail)
    × (begins_line (before ++ last ∷ tail) (length (before ++ last ∷ tail) - length tail) ≡ eqb last 10)
at_cut before tail last = (ap (λ n. drop n text) offset ∙ rest, ap (begins_line text) offset ∙ line)
  where
    text : List ℕ
    text = before ++ last ∷ tail

    offset : length (before ++ last ∷ tail) - length tail ≡ suc (length before)
    offset = omega (arith, length-append before (last ∷ tail))

    rest : drop (suc (length before)) (before ++ last ∷ tail) ≡ tail
    rest =
        ap (drop (suc (length before))) (sym (append_assoc before (last ∷ []) tail))
        ∙ drop_at (before ++ last ∷ []) tail (suc (length before)) (omega (arith, length-append before (last ∷ [])))

    line : begins_line (before ++ last ∷ tail) (suc (length before)) ≡ eqb last 10
    line =
        let first : eqb (suc (length before)) 0 ≡ false = grind (arith, nat_tests) in
        let there : get_or (before ++ last ∷ tail) (suc (length before) - 1) 0 ≡ last =
        get_or_at before last tail 0 (suc (length before) - 1) (omega arith) in
        rw (first, there) refl

IsPlace : List ℕ → ℕ → List ℕ → Type 0
IsPlace tail last text = (drop (length text - length tail) text ≡ tail)
    × (begins_line text (length text - length tail) ≡ eqb last 10)

-- the tokens after one that begins with c
tokens_after : (text : List ℕ) (at c : ℕ) (rest tail : List ℕ) → drop at text ≡ c ∷ rest → Rest c rest tail
    → tokens_of (length rest) (eqb c 10) tail ≡ tokens_from text (length text - length tail)
unfolding tokens_from IsPlace
tokens_after text at c rest tail is (inl e) =
    ap (tokens_of (length rest) (eqb c 10)) e ∙ none_left (length rest) (eqb c 10)
    ∙ sym (no_token text (length text - length tail)
    (omega (arith, ap length e, length-drop (length text - length tail) text)))
tokens_after text at c rest tail is (inr k) =
    let before : List ℕ = take at text ++ k.front in
    let whole : text ≡ before ++ k.last ∷ tail = sym (take-append-drop at text)
    ∙ ap (λ xs. take at text ++ xs) (is ∙ k.is) ∙ sym (append_assoc (take at text) k.front (k.last ∷ tail)) in
    let offset : IsPlace tail k.last text = subst (IsPlace tail k.last) (sym whole) (at_cut before tail k.last) in
    let few : length tail ≤ length rest = omega (arith, simp length-append at (ap length k.is)) in
    let fewer : length tail ≤ length text = omega (arith, simp length-append at (ap length whole)) in
    enough (length rest) (length text) (eqb c 10) tail few fewer
    ∙ ap (λ b. tokens_of (length text) b tail) (sym (offset.1 ∙ k.ends))
    ∙ ap (tokens_of (length text) (begins_line text (length text - length tail))) (sym offset.0)

-- the tokens from `at` on are the one there, and those from the offset after it on
pub token_more : (text : List ℕ) (at c : ℕ) (rest : List ℕ) → drop at text ≡ c ∷ rest → at ≤ length text
    → tokens_from text at ≡ (length text - at, (token_at (begins_line text at) c rest).0) ∷ tokens_from text
    (length text - length (token_at (begins_line text at) c rest).1)
unfolding tokens_from tokens_of
token_more text at c rest is h =
    let left : suc (length rest) ≡ length text - at = sym (ap length is) ∙ length-drop at text in
    let all : suc (length rest) ≤ length text = omega arith in
    let t : Token × List ℕ = token_at (begins_line text at) c rest in
    ap (tokens_of (length text) (begins_line text at)) is
    ∙ enough (length text) (suc (length rest)) (begins_line text at) (c ∷ rest) all (omega arith)
    ∙ ap (λ n. (n, t.0) ∷ tokens_of (length rest) (eqb c 10) t.1) left
    ∙ ap (λ tokens. (length text - at, t.0) ∷ tokens)
    (tokens_after text at c rest t.1 is (token_rest (begins_line text at) c rest))

-- that offset is after `at`
pub token_nearer : (text : List ℕ) (at c : ℕ) (rest : List ℕ) → drop at text ≡ c ∷ rest → at ≤ length text
    → at < length text - length (token_at (begins_line text at) c rest).1
token_nearer text at c rest is h =
    omega (arith, ap length is, length-drop at text, shorter (begins_line text at) c rest)

-- ---- the same for the text from the offset `at` on (`xs`) as the code has it, by its first byte and the others

-- the next token at the offset `at` is `token`, and `tail` is the text after it: the tokens go on there, nearer to the
-- text's end
pub record NextToken (text : List ℕ) (at : ℕ) (token : Token) (tail : List ℕ) : Type 0 where
  pub tokens : tokens_from text at ≡ (length text - at, token) ∷ tokens_from text (length text - length tail)
  pub nearer : at < length text - length tail
  pub fewer : length tail ≤ length text

pub next_token : (text : List ℕ) (at : ℕ) (begins : Bool) (xs : List ℕ) → at ≤ length text
    → begins ≡ begins_line text at → xs ≡ take (length text - at) (drop at text) → 1 ≤ length xs
    → (token : Token) (tail : List ℕ)
    → (token, tail) ≡ token_at begins (get_or xs 0 0) (take (length xs - 1) (drop 1 xs))
    → NextToken text at token tail
next_token text at begins [] h line is some token tail e = absurd (omega (arith, some))
next_token text at begins (c ∷ rest) h line is some token tail e =
    let left : drop at text ≡ c ∷ rest = sym (is ∙ take_rest text at) in
    let t : Token × List ℕ = token_at (begins_line text at) c rest in
    let same : t ≡ (token, tail) = ap (token_at (begins_line text at) c) (sym (take_rest (c ∷ rest) 1))
    ∙ ap (λ b. token_at b c (take (suc (length rest) - 1) (drop 1 (c ∷ rest)))) (sym line) ∙ sym e in
    record {
      tokens = subst (λ (p : Token × List ℕ). tokens_from text at ≡ (length text - at, p.0) ∷ tokens_from text
          (length text - length p.1)) same (token_more text at c rest left h);
      nearer = subst (λ (p : Token × List ℕ). at < length text - length p.1) same (token_nearer text at c rest left h);
      fewer = subst (λ (p : Token × List ℕ). length p.1 ≤ length text) same
          (omega (arith, ap length left, length-drop at text, shorter (begins_line text at) c rest));
    }

-- what can't be read leaves no text, and is the last token
pub last_token : (text : List ℕ) (at : ℕ) (begins : Bool) (xs : List ℕ) → at ≤ length text
    → begins ≡ begins_line text at → xs ≡ take (length text - at) (drop at text) → 1 ≤ length xs → (token : Token)
    → (token, []) ≡ token_at begins (get_or xs 0 0) (take (length xs - 1) (drop 1 xs))
    → tokens_from text at ≡ (length text - at, token) ∷ []
last_token text at begins xs h line is some token e =
    (next_token text at begins xs h line is some token [] e).tokens
    ∙ ap (λ tokens. (length text - at, token) ∷ tokens)
    (no_token text (length text - 0) (omega (arith, length-drop (length text - 0) text)))

pub no_token_left : (text : List ℕ) (at : ℕ) (xs : List ℕ) → xs ≡ take (length text - at) (drop at text) → length xs < 1
    → tokens_from text at ≡ []
no_token_left text at xs is none = no_token text at (omega (arith, ap length (is ∙ take_rest text at)))
