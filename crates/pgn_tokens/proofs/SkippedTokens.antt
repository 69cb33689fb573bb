-- Tokens that are skipped, such as white space and dots. Each byte that `after_blanks` passes is such a token
-- (blank_more), and they hold no tag, so the last tag of a name is the same from before them as from after them
-- (skips_last).
use Rattle.std.proofs.Common.{◌≡◌, ℕ, suc, ◌+◌, ◌-◌, ◌<◌, ◌||◌, ◌==◌, eqb, Bool, true, false, List, [], ◌∷◌, ◌++◌, map, length, get_or, drop, Option, refl, sym, ap, ◌∙◌, arith, drop-cons, length-drop}
use Rattle.std.proofs.lemmas.Bool.Decides.{nat_tests}
use Rattle.pgn_tokens.specs.Seen.{SkipsTo}
use Rattle.pgn_tokens.specs.Tokens.{Token, Skip, is_white_space, token_at, begins_line, tokens_from}
use Rattle.pgn_tokens.proofs.{TagScans.last_from, TagScans.last_step, Walk.token_more}

-- skipped tokens, given by how many bytes are left at each
abbrev pub skipped : List ℕ → List (ℕ × Token)
skipped lefts = map (λ left. (left, Skip)) lefts

-- at first nothing is skipped
pub none_yet : (text : List ℕ) (at : ℕ) → SkipsTo text at at
none_yet text at = ([], refl)

-- ---- white space and dots

-- a byte of white space or a dot is a token that is skipped
blank_token : (begins : Bool) (c : ℕ) (rest : List ℕ) → (is_white_space c || (c == 46)) ≡ true
    → token_at begins c rest ≡ (Skip, rest)
unfolding token_at
blank_token true c rest h =
    let line : eqb c 37 ≡ false = grind (arith, nat_tests, h) in
    rw (line, h) refl
blank_token false c rest h = rw h refl

-- so it is the first of the tokens from its offset on
blank_at : (text : List ℕ) (at c : ℕ) (rest : List ℕ) → drop at text ≡ c ∷ rest → at < length text
    → (is_white_space c || (c == 46)) ≡ true
    → tokens_from text at ≡ (length text - at, Skip) ∷ tokens_from text (at + 1)
blank_at text at c rest is low h =
    let left : suc (length rest) ≡ length text - at = sym (ap length is) ∙ length-drop at text in
    let offset : length text - length rest ≡ at + 1 = omega (arith, left, low) in
    token_more text at c rest is (omega (arith, low))
    ∙ ap (λ (t : Token × List ℕ). (length text - at, t.0) ∷ tokens_from text (length text - length t.1))
    (blank_token (begins_line text at) c rest h)
    ∙ ap (λ n. (length text - at, Skip) ∷ tokens_from text n) offset

joined : (lefts : List ℕ) (left : ℕ) (ts : List (ℕ × Token))
    → skipped lefts ++ (left, Skip) ∷ ts ≡ skipped (lefts ++ left ∷ []) ++ ts
joined [] left ts = refl
joined (l ∷ ls) left ts = ap (λ us. (l, Skip) ∷ us) (joined ls left ts)

-- one more byte of white space, or a dot, is skipped
pub blank_more : (text : List ℕ) (from at : ℕ) → SkipsTo text from at → at < length text
    → (is_white_space (get_or text at 0) || (get_or text at 0 == 46)) ≡ true → SkipsTo text from (at + 1)
blank_more text from at so low h = (
  so.0 ++ (length text - at) ∷ [],
  so.1
      ∙ ap (λ ts. skipped so.0 ++ ts)
      (blank_at text at (get_or text at 0) (drop (suc at) text) (drop-cons text at 0 low) low h)
      ∙ joined so.0 (length text - at) (tokens_from text (at + 1)),
)

-- ---- at what is skipped there is no tag

last_on : (name : List ℕ) (before : Option (List ℕ × ℕ)) (lefts : List ℕ) (ts : List (ℕ × Token))
    → last_from name before (skipped lefts ++ ts) ≡ last_from name before ts
last_on name before [] ts = refl
last_on name before (left ∷ lefts) ts =
    last_step name before (left, Skip) (skipped lefts ++ ts) ∙ last_on name before lefts ts

-- the last tag of a name, or else the one before (`before`), from `a` on and from `b` on, if only skipped tokens are
-- between
pub skips_last : (text : List ℕ) (a b : ℕ) → SkipsTo text a b → (name : List ℕ) (before : Option (List ℕ × ℕ))
    → last_from name before (tokens_from text a) ≡ last_from name before (tokens_from text b)
skips_last text a b so name before =
    ap (last_from name before) so.1 ∙ last_on name before so.0 (tokens_from text b)
