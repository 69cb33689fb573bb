-- For the loop of `has_variation`, which reads tokens only up to the text's last `(`, since a variation begins with
-- one. By its invariant (Sought) no token before the offset reached is a variation. A token that is none keeps this
-- (sought_on). The search ends at a variation (found), where no `(` is left (none_left), at the text's end
-- (none_to_end), and at what can't be read (none_readable).
use Rattle.std.proofs.Common.{◌≡◌, ℕ, zero, suc, ◌+◌, ◌-◌, ◌<◌, ◌≤◌, Bool, true, false, ◌||◌, eqb, List, [], ◌∷◌, length, get_or, drop, refl, sym, ap, ◌∙◌, arith}
use Rattle.std.specs.List.{position_or_len}
use Rattle.std.proofs.lemmas.List.{get_or-drop, length-drop}
use Rattle.std.proofs.lemmas.List.Sums.{fails_before_first}
use Rattle.pgn_tokens.specs.{VariationTokens.has_variation, VariationTokens.is_variation, declared.token.TokenFault.TokenFault, ties.Parentheses.HasNone, Seen.fault_seen}
use Rattle.pgn_tokens.specs.Tokens.{Token, Skip, Tag, Word, Bad_tag, Unclosed_comment, Unclosed_variation, Bad, token_at, tokens_of, begins_line, tokens_from}
use Rattle.pgn_tokens.specs.declared.token.TokenFault.TheVariants as fault
use Rattle.pgn_tokens.proofs.Walk.{shorter}

-- ---- the next `(`

-- before the offset of the first `(` (byte 40) there is none
pub none_before : (text : List ℕ) (at place : ℕ) → place ≡ at + position_or_len (λ c. eqb c 40) (drop at text)
    → HasNone text at place
none_before text at place is n low high =
    let there : at + (n - at) ≡ n = omega (arith, low) in
    let early : n - at < position_or_len (λ c. eqb c 40) (drop at text) = omega (arith, is, low, high) in
    ap (λ k. eqb (get_or text k 0) 40) (sym there)
    ∙ ap (λ c. eqb c 40) (sym (get_or-drop at text (n - at) 0))
    ∙ fails_before_first (λ c. eqb c 40) (drop at text) (n - at) 0 early

-- nor is there from a later offset on
pub none_later : (text : List ℕ) (from at place : ℕ) → from ≤ at → HasNone text from place → HasNone text at place
none_later text from at place h none n low high = none n (omega (arith, h, low)) high

-- ---- tokens

neither : (a b : Bool) → a ≡ false → b ≡ false → (a || b) ≡ false
neither true b e f = absurd (cc)
neither false b e f = f

-- a token that begins with no `(` is no variation
no_variation : (text : List ℕ) (at : ℕ) (token : Token) → eqb (get_or text at 0) 40 ≡ false
    → is_variation text at token ≡ false
no_variation text at Skip h = h
no_variation text at (Tag name string left) h = refl
no_variation text at (Word word) h = refl
no_variation text at Bad_tag h = refl
no_variation text at (Unclosed_comment left) h = refl
no_variation text at Unclosed_variation h = refl
no_variation text at Bad h = refl

-- nor is what can't be read
no_fault : (text : List ℕ) (at : ℕ) (f : TokenFault) → is_variation text at (fault_seen f) ≡ false
no_fault text at fault.BadTag = refl
no_fault text at (fault.UnclosedComment left) = refl
no_fault text at fault.UnclosedVariation = refl
no_fault text at fault.BadByte = refl

-- where no `(` is left, no token is a variation
none_among : (text : List ℕ) (low n : ℕ) (b : Bool) (xs : List ℕ) → low + length xs ≤ length text
    → HasNone text low (length text) → has_variation text (tokens_of n b xs) ≡ false
unfolding tokens_of
none_among text low zero b xs h none = refl
none_among text low (suc n) b [] h none = refl
none_among text low (suc n) b (c ∷ rest) h none =
    let t : Token × List ℕ = token_at b c rest in
    let few = shorter b c rest in
    let here : ℕ = length text - suc (length rest) in
    neither (is_variation text here t.0) (has_variation text (tokens_of n (eqb c 10) t.1))
    (no_variation text here t.0 (none here (omega (arith, h)) (omega (arith, h))))
    (none_among text low n (eqb c 10) t.1 (omega (arith, h, few)) none)

none_from : (text : List ℕ) (at : ℕ) → at ≤ length text → HasNone text at (length text)
    → has_variation text (tokens_from text at) ≡ false
unfolding tokens_from
none_from text at h none =
    none_among text at (length text) (begins_line text at) (drop at text) (omega (arith, h, length-drop at text)) none

-- whether there is a variation, by the first token and the others
by_first : (text : List ℕ) (at : ℕ) (token : Token) (more : List (ℕ × Token)) → at ≤ length text
    → has_variation text ((length text - at, token) ∷ more)
    ≡ (is_variation text at token || has_variation text more)
by_first text at token more h =
    let back : length text - (length text - at) ≡ at = omega (arith, h) in
    ap (λ k. is_variation text k token || has_variation text more) back

-- ---- as code looks for one

-- no token from `at` up to `here` is a variation, and no `(` comes from there up to `place`
pub record Sought (text : List ℕ) (at here place : ℕ) : Type 0 where
  pub offset : here ≤ length text
  pub whole : has_variation text (tokens_from text here) ≡ has_variation text (tokens_from text at)
  pub none : HasNone text here place

-- how the search goes on or ends, when it has come to `here`
module _ (text : List ℕ) (at here place : ℕ) (r : Sought text at here place) where
  -- no `(` is left
  pub none_left : length text ≤ place → false ≡ has_variation text (tokens_from text at)
  none_left h =
      sym (none_from text here r.offset (λ n low high. r.none n low (omega (arith, h, high)))) ∙ r.whole

  -- the text ends
  pub none_to_end : tokens_from text here ≡ [] → false ≡ has_variation text (tokens_from text at)
  none_to_end is = ap (has_variation text) (sym is) ∙ r.whole

  -- the rest can't be read
  pub none_readable : (f : TokenFault) → tokens_from text here ≡ (length text - here, fault_seen f) ∷ []
      → false ≡ has_variation text (tokens_from text at)
  none_readable f is =
      sym (by_first text here (fault_seen f) [] r.offset
      ∙ neither (is_variation text here (fault_seen f)) false (no_fault text here f) refl)
      ∙ ap (has_variation text) (sym is) ∙ r.whole

  module _ (tail : ℕ) (token : Token)
      (is : tokens_from text here ≡ (length text - here, token) ∷ tokens_from text tail) where
    -- the token at `here` is a variation, or one after it is, exactly if one from `at` on is
    by_next : (is_variation text here token || has_variation text (tokens_from text tail))
        ≡ has_variation text (tokens_from text at)
    by_next =
        sym (by_first text here token (tokens_from text tail) r.offset) ∙ ap (has_variation text) (sym is) ∙ r.whole

    -- a variation
    pub found : is_variation text here token ≡ true → true ≡ has_variation text (tokens_from text at)
    found opens = ap (λ b. b || has_variation text (tokens_from text tail)) (sym opens) ∙ by_next

    -- another token
    pub sought_on : (next : ℕ) → tail ≤ length text → is_variation text here token ≡ false → HasNone text tail next
        → Sought text at tail next
    sought_on next inside other none = record {
      offset = inside;
      whole = ap (λ b. b || has_variation text (tokens_from text tail)) (sym other) ∙ by_next;
      none = none;
    }
