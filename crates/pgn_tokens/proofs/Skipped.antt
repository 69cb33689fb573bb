-- One step of skipping. A round of `after_gap` over a `%` line up to its end, or over a byte of white space, leaves as
-- much of the gap as the definition does (gap_line_more, gap_blank_more). `after_brace` finds what the definition
-- finds, without a `}` (no_brace) and with one (brace_found). By induction on the line or on the text before the `}`.
use Rattle.std.proofs.Common.{◌≡◌, ℕ, suc, ◌+◌, ◌-◌, ◌<◌, ◌≤◌, Bool, true, false, not, cond, eqb, List, [], ◌∷◌, length, get_or, take, drop, add-one, Option, Some, None, refl, sym, ap, ◌∙◌, arith, ◌==◌, drop-cons}
use Rattle.std.specs.List.{position_or_len}
use Rattle.std.proofs.{lemmas.Bool.Decides.nat_tests, lemmas.List.drop_all, lemmas.List.take_rest}
use Rattle.pgn_tokens.specs.{Tokens.line_end, Tokens.is_white_space, Tokens.after_brace, shared.Gaps.gap_left}

-- the end of a line whose first byte is not 10
pub line_end-more : (c : ℕ) (rest : List ℕ) → eqb c 10 ≡ false → line_end (c ∷ rest) ≡ line_end rest
line_end-more c rest e =
    let next : 1 + position_or_len (λ b. eqb b 10) rest ≡ suc (position_or_len (λ b. eqb b 10) rest) = omega arith in
    rw (e, next) refl

-- a `%` line in a gap is skipped up to its end, and the gap goes on there
pub gap_line : (b : Bool) (text : List ℕ) → gap_left true b text ≡ gap_left false false (line_end text)
gap_line b [] = refl
gap_line b (c ∷ rest) = by_test (eqb c 10) refl (gap_line true rest)
  where
    by_test : (t : Bool) → eqb c 10 ≡ t → gap_left true true rest ≡ gap_left false false (line_end rest)
        → gap_left true b (c ∷ rest) ≡ gap_left false false (line_end (c ∷ rest))
    by_test true e more =
        let blank : is_white_space c ≡ true = grind (arith, nat_tests) in
        rw (e, blank, e) refl
    by_test false e more = ap (λ t. gap_left (not t) true rest) e ∙ more
        ∙ ap (gap_left false false) (sym (line_end-more c rest e))

-- a round of `after_gap` at a `%` (byte 37) that begins a line: `xs` is the text before it, `next` the text after it
pub gap_line_more : (xs next : List ℕ) → 1 ≤ length xs → get_or xs 0 0 ≡ 37
    → next ≡ line_end (take (length xs - 1) (drop 1 xs)) → gap_left false (eqb (get_or xs 0 0) 10) next
    ≡ gap_left false true xs
gap_line_more [] next h e is = absurd (omega (arith, h))
gap_line_more (c ∷ rest) next h e is =
    let line : eqb c 37 ≡ true = grind (arith, nat_tests) in
    let more : eqb c 10 ≡ false = grind (arith, nat_tests) in
    rw (line, more, is) (ap (λ t. gap_left false false (line_end t)) (take_rest (c ∷ rest) 1)
    ∙ sym (gap_line false rest))

-- a round of `after_gap` at a byte of white space
pub gap_blank_more : (begins : Bool) (xs next : List ℕ) → 1 ≤ length xs → is_white_space (get_or xs 0 0) ≡ true
    → next ≡ take (length xs - 1) (drop 1 xs) → gap_left false (eqb (get_or xs 0 0) 10) next ≡ gap_left false begins
    xs
gap_blank_more begins [] next h e is = absurd (omega (arith, h))
gap_blank_more begins (c ∷ rest) next h e is =
    let line : eqb c 37 ≡ false = grind (arith, nat_tests) in
    ap (gap_left false (eqb c 10)) (is ∙ take_rest (c ∷ rest) 1) ∙ sym (gap_blank begins c rest line e)
  where
    gap_blank : (b : Bool) (c : ℕ) (rest : List ℕ) → eqb c 37 ≡ false → is_white_space c ≡ true
        → gap_left false b (c ∷ rest) ≡ gap_left false (eqb c 10) rest
    gap_blank true c rest line blank = rw (line, blank) refl
    gap_blank false c rest line blank = rw blank refl

-- ---- comments

-- how many bytes come before the first closing brace; all, if there is none
abbrev brace_len : List ℕ → ℕ
brace_len text = position_or_len (λ c. c == 125) text

-- a text without its first byte, `None` if it is empty
abbrev without_first : List ℕ → Option (List ℕ)
without_first [] = None
without_first (c ∷ rest) = Some rest

-- the text after the first `}` is the text from that `}` on, without its first byte
from_brace : (text : List ℕ) → after_brace text ≡ without_first (drop (brace_len text) text)
from_brace [] = refl
from_brace (c ∷ rest) = by_test (eqb c 125) refl (from_brace rest)
  where
    past : ℕ → Option (List ℕ)
    past k = without_first (drop k (c ∷ rest))

    by_test : (t : Bool) → eqb c 125 ≡ t → after_brace rest ≡ without_first (drop (brace_len rest) rest)
        → after_brace (c ∷ rest) ≡ past (brace_len (c ∷ rest))
    by_test true e on =
        ap (λ t. cond t (Some rest) (after_brace rest)) e
        ∙ sym (ap (λ t. past (cond (not t) (1 + brace_len rest) 0)) e)
    by_test false e on =
        let up : 1 + brace_len rest ≡ suc (brace_len rest) = omega arith in
        ap (λ t. cond t (Some rest) (after_brace rest)) e ∙ on
        ∙ sym (ap (λ t. past (cond (not t) (1 + brace_len rest) 0)) e ∙ ap past up)

pub no_brace : (text : List ℕ) (len : ℕ) → len ≡ brace_len text → len ≡ length text → None ≡ after_brace text
no_brace text len is all =
    sym (from_brace text ∙ ap without_first (drop_all (brace_len text) text (omega (arith, is, all))))

-- with a `}`, the text after it, as the code's slice has it
pub brace_found : (text : List ℕ) (len : ℕ) → len ≡ brace_len text → len < length text
    → Some (take (length text - (len + 1)) (drop (len + 1) text)) ≡ after_brace text
brace_found text len is within =
    ap (λ (xs : List ℕ). Some xs) (take_rest text (len + 1) ∙ ap (λ k. drop k text) (add-one len))
    ∙ sym (from_brace text ∙ ap (λ k. without_first (drop k text)) (sym is)
    ∙ ap without_first (drop-cons text len 0 within))
