-- A gap is the white space and `%` lines between two parts of a tag. The definition skips it line by line
-- (`after_gap`), the code byte by byte (`gap_left`, with flags for the state); both leave the same (gap_same). By
-- induction on the text, for all three states at once (GapIs). Also, a byte that is no white space is found at once at
-- a text's front (next_at_once).
use Rattle.std.proofs.Common.{◌≡◌, ℕ, suc, ◌+◌, ◌-◌, ◌≤◌, Bool, true, false, not, cond, eqb, List, [], ◌∷◌, length, get_or, take, drop, Some, refl, sym, ap, ◌∙◌, arith}
use Rattle.std.specs.List.{list_all, join_with_byte, onto_first, prefix_len, take_while}
use Rattle.std.proofs.{lemmas.Bool.Decides.nat_tests, lemmas.List.take_rest, lemmas.List.Splits.join_with_byte-slice_split}
use Rattle.text_lines.specs.Lines.{parts}
use Rattle.byte_devices.specs.Bytes.{after_byte}
use Rattle.pgn_tokens.specs.Tokens.{is_white_space, after_white_space, is_gap_line, after_gap_lines, after_gap, after_next}
use Rattle.pgn_tokens.specs.shared.Gaps.{gap_left}
use Rattle.pgn_tokens.proofs.ByteRuns.{differs}

-- the bytes of a text before its first `\n`
abbrev first_line : List ℕ → List ℕ
first_line text = take_while (λ c. not (eqb c 10)) text

line_len-more : (rest : List ℕ)
    → 1 + prefix_len (λ b. not (eqb b 10)) rest ≡ suc (prefix_len (λ b. not (eqb b 10)) rest)
line_len-more rest = omega arith

-- a byte put before the first line is not in the others
drop-onto : (c : ℕ) (lines : List (List ℕ)) → drop 1 (onto_first c lines) ≡ drop 1 lines
drop-onto c [] = refl
drop-onto c (line ∷ lines) = refl

-- the lines of a text are the first and the others
parts-first : (text : List ℕ) → parts text ≡ first_line text ∷ drop 1 (parts text)
parts-first [] = refl
parts-first (c ∷ rest) = by_test (eqb c 10) refl (parts-first rest)
  where
    by_test : (t : Bool) → eqb c 10 ≡ t → parts rest ≡ first_line rest ∷ drop 1 (parts rest)
        → parts (c ∷ rest) ≡ first_line (c ∷ rest) ∷ drop 1 (parts (c ∷ rest))
    by_test true e more = rw e refl
    by_test false e more = rw (e, line_len-more rest, drop-onto c (parts rest)) (ap (onto_first c) more)

-- a byte that ends no line is in the first one
first_more : (c : ℕ) (rest : List ℕ) → eqb c 10 ≡ false
    → parts (c ∷ rest) ≡ (c ∷ first_line rest) ∷ drop 1 (parts rest)
first_more c rest e = ap (λ t. cond t ([] ∷ parts rest) (onto_first c (parts rest))) e
    ∙ ap (onto_first c) (parts-first rest)

-- a line is skipped whole, or the gap ends in it
by_line : (line : List ℕ) (lines : List (List ℕ)) → after_gap_lines (line ∷ lines)
    ≡ cond (is_gap_line line) (after_gap_lines lines) (after_white_space (join_with_byte 10 (line ∷ lines)))
unfolding after_gap_lines
by_line line lines = by_test (is_gap_line line) refl
  where
    more : 1 + prefix_len is_gap_line lines ≡ suc (prefix_len is_gap_line lines)
    more = omega arith

    by_test : (t : Bool) → is_gap_line line ≡ t → after_gap_lines (line ∷ lines)
        ≡ cond (is_gap_line line) (after_gap_lines lines) (after_white_space (join_with_byte 10 (line ∷ lines)))
    by_test true e = rw (e, more) refl
    by_test false e = rw e refl

-- the gap of a text whose first byte ends no line, by its first line
first_gap : (c : ℕ) (rest : List ℕ) → eqb c 10 ≡ false
    → cond (list_all is_white_space (c ∷ first_line rest)) (after_gap_lines (drop 1 (parts rest)))
    (after_white_space (c ∷ rest)) ≡ after_gap (c ∷ rest)
first_gap c rest e =
    let n : ℕ = prefix_len (λ b. not (eqb b 10)) rest in
    sym (ap (λ t. cond (list_all is_white_space (take (cond (not t) (1 + n) 0) (c ∷ rest)))
    (after_gap_lines (drop 1 (cond t ([] ∷ parts rest) (onto_first c (parts rest))))) (after_white_space (c ∷ rest))) e
    ∙ rw (line_len-more rest, drop-onto c (parts rest)) refl)

-- the rest of a line that begins with no `%` is skipped as a whole line is
same_line : (c : ℕ) (rest : List ℕ) → eqb c 37 ≡ false → after_gap_lines (parts (c ∷ rest)) ≡ after_gap (c ∷ rest)
same_line c rest percent = by_test (eqb c 10) refl
  where
    by_test : (t : Bool) → eqb c 10 ≡ t → after_gap_lines (parts (c ∷ rest)) ≡ after_gap (c ∷ rest)
    by_test true e = rw (e, by_line [] (parts rest)) refl
    by_test false e =
        let text : join_with_byte 10 ((c ∷ first_line rest) ∷ drop 1 (parts rest)) ≡ c ∷ rest =
        ap (join_with_byte 10) (sym (first_more c rest e)) ∙ join_with_byte-slice_split 10 (c ∷ rest) in
        ap after_gap_lines (first_more c rest e) ∙ by_line (c ∷ first_line rest) (drop 1 (parts rest))
        ∙ rw (percent, text) (first_gap c rest e)

-- byte by byte the gap leaves what it leaves by lines, from each state: inside a line, at a line's front, and inside a
-- `%` line
record GapIs (text : List ℕ) : Type 0 where
  pub inside : gap_left false false text ≡ after_gap text
  pub at_front : gap_left false true text ≡ after_gap_lines (parts text)
  pub in_line : (b : Bool) → gap_left true b text ≡ after_gap_lines (drop 1 (parts text))

-- if this holds for `rest`, it holds for one byte more, inside a line; and so from the other two states below
inside_more : (c : ℕ) (rest : List ℕ) → GapIs rest → gap_left false false (c ∷ rest) ≡ after_gap (c ∷ rest)
inside_more c rest h = by_blank (is_white_space c) refl
  where
    by_ten : is_white_space c ≡ true → (t : Bool) → eqb c 10 ≡ t
        → gap_left false false (c ∷ rest) ≡ after_gap (c ∷ rest)
    by_ten blank true e = rw (blank, e) h.at_front
    by_ten blank false e =
        let next : 1 + prefix_len is_white_space rest ≡ suc (prefix_len is_white_space rest) = omega arith in
        rw (blank, e, line_len-more rest, blank, next, drop-onto c (parts rest)) h.inside

    by_blank : (t : Bool) → is_white_space c ≡ t → gap_left false false (c ∷ rest) ≡ after_gap (c ∷ rest)
    by_blank true blank = by_ten blank (eqb c 10) refl
    by_blank false other =
        let e : eqb c 10 ≡ false = differs (λ k. not (is_white_space k)) c 10 (ap not other) refl in
        rw (other, e, line_len-more rest, other) refl

front_more : (c : ℕ) (rest : List ℕ) → GapIs rest → gap_left false true (c ∷ rest) ≡ after_gap_lines (parts (c ∷ rest))
front_more c rest h = by_percent (eqb c 37) refl
  where
    by_percent : (t : Bool) → eqb c 37 ≡ t → gap_left false true (c ∷ rest) ≡ after_gap_lines (parts (c ∷ rest))
    by_percent true percent =
        let e : eqb c 10 ≡ false = grind (arith, nat_tests) in
        let left : gap_left false true (c ∷ rest) ≡ gap_left true false rest = rw percent refl in
        let right : after_gap_lines ((c ∷ first_line rest) ∷ drop 1 (parts rest))
        ≡ after_gap_lines (drop 1 (parts rest)) =
        by_line (c ∷ first_line rest) (drop 1 (parts rest)) ∙ rw percent refl in
        left ∙ h.in_line false ∙ sym (ap after_gap_lines (first_more c rest e) ∙ right)
    by_percent false other =
        let left : gap_left false true (c ∷ rest) ≡ gap_left false false (c ∷ rest) = rw other refl in
        left ∙ inside_more c rest h ∙ sym (same_line c rest other)

line_more : (c : ℕ) (rest : List ℕ) → GapIs rest → (b : Bool)
    → gap_left true b (c ∷ rest) ≡ after_gap_lines (drop 1 (parts (c ∷ rest)))
line_more c rest h b = by_ten (eqb c 10) refl
  where
    by_ten : (t : Bool) → eqb c 10 ≡ t → gap_left true b (c ∷ rest) ≡ after_gap_lines (drop 1 (parts (c ∷ rest)))
    by_ten true e = rw e h.at_front
    by_ten false e = rw (e, drop-onto c (parts rest)) (h.in_line true)

gap_is : (text : List ℕ) → GapIs text
unfolding after_gap_lines
gap_is [] = record { inside = refl; at_front = refl; in_line = λ b. refl }
gap_is (c ∷ rest) = let h = gap_is rest in record {
  inside = inside_more c rest h;
  at_front = front_more c rest h;
  in_line = line_more c rest h;
}

pub gap_same : (text : List ℕ) → gap_left false false text ≡ after_gap text
gap_same text = (gap_is text).inside

-- a byte that is no white space comes at once, with its text as code meets it
pub next_at_once : (b : ℕ) (text : List ℕ) → 1 ≤ length text → get_or text 0 0 ≡ b → is_white_space b ≡ false
    → Some (take (length text - 1) (drop 1 text)) ≡ after_next b text
next_at_once b [] some first visible = absurd (omega (arith, some))
next_at_once b (c ∷ rest) some first visible =
    let same : eqb c b ≡ true = grind (arith, nat_tests, first) in
    let other : is_white_space c ≡ false = ap is_white_space first ∙ visible in
    ap (λ (xs : List ℕ). Some xs) (take_rest (c ∷ rest) 1)
    ∙ sym (ap (after_byte b) (sym (gap_same (c ∷ rest))) ∙ rw (other, same) refl)
