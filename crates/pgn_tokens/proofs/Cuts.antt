-- No token has a byte 10 (`\n`) last but the token that is just this byte: what is left, if anything, after a token
-- that doesn't begin with byte 10 comes after a byte other than 10 (token_left), and a byte 10 is a token of its own
-- (token_ten). So a line begins after a token exactly if it is a `\n`. By cases of the token's kind.
use Rattle.std.proofs.Common.{◌≡◌, ℕ, Bool, true, false, not, eqb, List, [], ◌∷◌, ◌++◌, refl, sym, ap, ◌∙◌, inl, inr, ◌⊎◌, append_assoc}
use Rattle.std.specs.List.{list_all}
use Rattle.std.proofs.lemmas.Bool.{and_parts}
use Rattle.byte_devices.specs.Bytes.{is_digit}
use Rattle.pgn_tokens.specs.Tokens.{Token, is_word_byte, token_at}
use Rattle.pgn_tokens.specs.shared.Kinds.{Kind, Blank, Line, Comment, Nag, Variation, Tag_pair, Asterisk, Symbol, IsOf}
use Rattle.pgn_tokens.proofs.ByteRuns.{differs}
use Rattle.pgn_tokens.proofs.TokenKinds.{not_empty, TokenSays, known, faulty, token_says}

-- the rest of a text after a byte other than 10
pub record Cut (text rest : List ℕ) : Type 0 where
  pub front : List ℕ
  pub last : ℕ
  pub is : text ≡ front ++ last ∷ rest
  pub no_end : eqb last 10 ≡ false

-- nothing is left, or the rest after a byte other than 10
abbrev pub Left : List ℕ → List ℕ → Type 0
Left text rest = (rest ≡ []) ⊎ Cut text rest

-- a byte other than 10, and then bytes that pass a test that 10 doesn't
run_ends : (p : ℕ → Bool) → p 10 ≡ false → (c : ℕ) (xs : List ℕ) → eqb c 10 ≡ false → list_all p xs ≡ true
    → Cut (c ∷ xs) []
run_ends p ten c [] e h = record { front = []; last = c; is = refl; no_end = e }
run_ends p ten c (d ∷ xs) e h =
    let both = and_parts (p d) (list_all p xs) h in
    let k = run_ends p ten d xs (differs p d 10 both.0 ten) both.1 in
    record { front = c ∷ k.front; last = k.last; is = ap (λ ys. c ∷ ys) k.is; no_end = k.no_end }

pub same_first : (c d : ℕ) (xs ys : List ℕ) → c ∷ xs ≡ d ∷ ys → c ≡ d
same_first c d xs ys e = cc

-- the last byte of a token whose first byte isn't 10
token_ends : (b : Bool) (kind : Kind) (c : ℕ) (front : List ℕ) → IsOf b kind (c ∷ front) → eqb c 10 ≡ false
    → Cut (c ∷ front) []
token_ends b Blank c front (k, is, h) e = record { front = []; last = c; is = ap (λ xs. c ∷ xs) none; no_end = e }
  where
    none : front ≡ []
    none = cc
token_ends b Line c front (k, body, is, skip, lack) e = run_ends (λ j. not (eqb j 10)) refl c front e
    (ap (list_all (λ j. not (eqb j 10))) same ∙ lack)
  where
    same : front ≡ body
    same = cc
token_ends b Comment c front (body, is, lack) e = record { front = 123 ∷ body; last = 125; is = is; no_end = refl }
token_ends b Nag c front (digits, is, all) e = run_ends is_digit refl c front e (ap (list_all is_digit) same ∙ all)
  where
    same : front ≡ digits
    same = cc
token_ends b Variation c front (body, is, h) e = record { front = 40 ∷ body; last = 41; is = is; no_end = refl }
token_ends b (Tag_pair name string closing) c front (opening, o, s, close, is) e =
    let group : opening ++ (string ++ 34 ∷ (close.0 ++ 93 ∷ [])) ≡ (opening ++ (string ++ 34 ∷ close.0)) ++ 93 ∷ [] =
    simp append_assoc in
    record {
      front = opening ++ (string ++ 34 ∷ close.0);
      last = 93;
      is = is ∙ ap (λ xs. opening ++ (string ++ xs)) close.2 ∙ group;
      no_end = refl;
    }
token_ends b Asterisk c front is e = record { front = []; last = 42; is = is; no_end = refl }
token_ends b Symbol c front h e =
    run_ends is_word_byte refl c front e (and_parts (is_word_byte c) (list_all is_word_byte front) h.1).1

-- after a token that does not begin with byte 10
pub token_left : (begins : Bool) (c : ℕ) (rest : List ℕ) → eqb c 10 ≡ false → Left (c ∷ rest) (token_at begins c rest).1
token_left begins c rest e = by_says (token_at begins c rest) (token_says begins c rest)
  where
    by_front : (kind : Kind) (front r : List ℕ) → c ∷ rest ≡ front ++ r → IsOf begins kind front → Left (c ∷ rest) r
    by_front kind [] r same is = absurd (not_empty begins kind is)
    by_front kind (d ∷ front) r same is =
        let first : c ≡ d = same_first c d rest (front ++ r) same in
        let k = token_ends begins kind d front is (ap (λ j. eqb j 10) (sym first) ∙ e) in
        inr (record {
          front = k.front;
          last = k.last;
          is = same ∙ ap (λ xs. xs ++ r) k.is ∙ append_assoc k.front (k.last ∷ []) r;
          no_end = k.no_end;
        })

    by_says : (t : Token × List ℕ) → TokenSays begins (c ∷ rest) t → Left (c ∷ rest) t.1
    by_says t (known kind front r same long) = by_front kind front r same long.is
    by_says t (faulty fault is_one h) = inl refl

-- a token that begins with byte 10 is white space, just that byte
pub token_ten : (begins : Bool) (rest : List ℕ) → (token_at begins 10 rest).1 ≡ rest
unfolding token_at
token_ten true rest = refl
token_ten false rest = refl
