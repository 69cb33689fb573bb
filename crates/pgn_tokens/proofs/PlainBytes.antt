-- `split_string` passes the first bytes of a tag's string all at once, up to the first quote, backslash or `\n`. These
-- plain bytes, put before the string that the rest gives, are the whole string (plain_first). By induction on the text.
use Rattle.std.proofs.Common.{◌≡◌, ℕ, suc, ◌+◌, Bool, true, false, not, cond, eqb, ◌||◌, List, [], ◌∷◌, take, drop, Option, refl, sym, ap, ◌∙◌, arith, ◌==◌}
use Rattle.std.specs.List.{position_or_len}
use Rattle.std.proofs.lemmas.Bool.{or_parts}
use Rattle.pgn_tokens.specs.Tokens.{onto, string_at}
use Rattle.pgn_tokens.proofs.Strings.{string_after, onto-nil, onto-append, string_other}

-- whether a byte is not plain: a quote, a backslash or byte 10
abbrev ends_plain : ℕ → Bool
ends_plain = λ c. c == 34 || (c == 92 || c == 10)

-- how many bytes a text has before the first that is not plain; all, if there is none
abbrev plain_len : List ℕ → ℕ
plain_len xs = position_or_len ends_plain xs

-- a plain byte is one of the string
plain_more : (c : ℕ) (rest : List ℕ) → ends_plain c ≡ false → string_at (c ∷ rest) ≡ onto (c ∷ []) (string_at rest)
plain_more c rest e =
    let quote = or_parts (eqb c 34) (eqb c 92 || eqb c 10) e in
    let others = or_parts (eqb c 92) (eqb c 10) quote.1 in
    string_other c rest others.1 quote.0 ∙ ap (λ kept. onto (c ∷ []) (string_after kept rest)) others.0

-- put before what the rest gives, they give the string of the text
pub plain_first : (text : List ℕ)
    → onto (take (plain_len text) text) (string_at (drop (plain_len text) text)) ≡ string_at text
plain_first [] = refl
plain_first (c ∷ rest) = by_test (ends_plain c) refl (plain_first rest)
  where
    past : ℕ → Option (List ℕ × List ℕ)
    past k = onto (take k (c ∷ rest)) (string_at (drop k (c ∷ rest)))

    by_test : (t : Bool) → ends_plain c ≡ t
        → onto (take (plain_len rest) rest) (string_at (drop (plain_len rest) rest)) ≡ string_at rest
        → past (plain_len (c ∷ rest)) ≡ string_at (c ∷ rest)
    by_test true e on =
        ap (λ t. past (cond (not t) (1 + plain_len rest) 0)) e ∙ onto-nil (string_at (c ∷ rest))
    by_test false e on =
        let len = plain_len rest in
        let front : plain_len (c ∷ rest) ≡ 1 + len = ap (λ t. cond (not t) (1 + len) 0) e in
        let up : 1 + len ≡ suc len = omega arith in
        ap past (front ∙ up) ∙ onto-append (c ∷ []) (take len rest) (string_at (drop len rest))
        ∙ ap (onto (c ∷ [])) on ∙ sym (plain_more c rest e)
