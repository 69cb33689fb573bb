-- Tags as they are written, `[Name "text"]`: each line is one token, with the name and the escaped text in it
-- (tag_token). Quotes and backslashes of the text are escaped, so the string ends at its own quote (string_written), by
-- induction on the text; a text without them isn't changed by escaping (bare_escaped). The texts of a game's tags are
-- in one line (tag_text_in_line).
use Rattle.std.proofs.Common.{◌≡◌, ℕ, ◌≤◌, Bool, true, false, not, cond, ◌&&◌, ◌||◌, eqb, List, [], ◌∷◌, ◌++◌, length, drop, Some, refl, sym, ap, ◌∙◌, append_assoc, arith}
use Rattle.std.specs.List.{list_all, prefix_len, take_while, AllByRecursion}
use Rattle.std.proofs.{lemmas.Bool.and_parts, lemmas.Bool.and_from, lemmas.Bool.or_parts, lemmas.Bool.Decides.nat_tests}
use Rattle.pgn_tokens.specs.Tokens.{Tag, after_gap, string_at, onto, token_at}
use Rattle.byte_devices.specs.Bytes.{is_name_byte, after_byte}
use Rattle.pgn_tokens.specs.shared.TagParts.{closed, with_text, with_string, with_tag_name, tag_by_parts}
use Rattle.chess_game.specs.Results.{IsTagText}
use Rattle.pgn_writer.specs.Written.{escaped, tag_line}
use Rattle.chess_pgn_laws.proofs.WrittenWords.{whole_run}
use Rattle.pgn_tokens.proofs.{shared.Tokens.no_percent, shared.Bytes.differs}
use Rattle.pgn_tokens.proofs.shared.Tags.{gap_same, parts_are, string_quote, string_other}

-- ---- a string

-- a byte that ends no line; one that stands for itself in a string
abbrev pub is_in_line : ℕ → Bool
is_in_line c = not (eqb c 10)

abbrev pub is_bare : ℕ → Bool
is_bare c = is_in_line c && not (eqb c 34 || eqb c 92)

-- byte 10 is the line feed
not_ten : (c : ℕ) → is_in_line c ≡ true → eqb c 10 ≡ false
not_ten c h = by_test (eqb c 10) h
  where
    by_test : (t : Bool) → not t ≡ true → t ≡ false
    by_test true e = cc
    by_test false e = refl

-- a quote or a backslash is no line's end
escaped_in_line : (c : ℕ) → (eqb c 34 || eqb c 92) ≡ true → eqb c 10 ≡ false
escaped_in_line c h = differs (λ k. eqb k 34 || eqb k 92) c 10 h refl

-- a string that is written is read up to its quote
pub string_written : (text rest : List ℕ) → list_all is_in_line text ≡ true
    → string_at (escaped text ++ 34 ∷ rest) ≡ Some (escaped text, rest)
string_written [] rest all = string_quote 34 rest refl
string_written (c ∷ cs) rest all = by_test (eqb c 34 || eqb c 92) refl (string_written cs rest both.1)
  where
    both : (is_in_line c ≡ true) × (list_all is_in_line cs ≡ true)
    both = and_parts (is_in_line c) (list_all is_in_line cs) all

    by_test : (b : Bool) → (eqb c 34 || eqb c 92) ≡ b → string_at (escaped cs ++ 34 ∷ rest) ≡ Some (escaped cs, rest)
        → string_at ((cond b (92 ∷ c ∷ []) (c ∷ []) ++ escaped cs) ++ 34 ∷ rest)
        ≡ Some (cond b (92 ∷ c ∷ []) (c ∷ []) ++ escaped cs, rest)
    by_test true e tail = rw (escaped_in_line c e) (ap (onto (92 ∷ c ∷ [])) tail)
    by_test false e tail =
        let plain = or_parts (eqb c 34) (eqb c 92) e in
        string_other c (escaped cs ++ 34 ∷ rest) (not_ten c both.0) plain.0
        ∙ rw plain.1 (ap (onto (c ∷ [])) tail)

-- a text of bytes that stand for themselves is not changed by escaping
pub bare_escaped : (text : List ℕ) → list_all is_bare text ≡ true → escaped text ≡ text
bare_escaped [] all = refl
bare_escaped (c ∷ cs) all =
    let both = and_parts (is_bare c) (list_all is_bare cs) all in
    let here = and_parts (is_in_line c) (not (eqb c 34 || eqb c 92)) both.0 in
    by_test (eqb c 34 || eqb c 92) here.1 (bare_escaped cs both.1)
  where
    by_test : (b : Bool) → not b ≡ true → escaped cs ≡ cs → cond b (92 ∷ c ∷ []) (c ∷ []) ++ escaped cs ≡ c ∷ cs
    by_test true e h = cc
    by_test false e h = ap (λ xs. c ∷ xs) h

pub bare_in_line : (text : List ℕ) → list_all is_bare text ≡ true → list_all is_in_line text ≡ true
bare_in_line [] all = refl
bare_in_line (c ∷ cs) all =
    let both = and_parts (is_bare c) (list_all is_bare cs) all in
    and_from (is_in_line c) (list_all is_in_line cs) (and_parts (is_in_line c) (not (eqb c 34 || eqb c 92)) both.0).0
    (bare_in_line cs both.1)

-- a tag's text, which is printable ASCII, is in one line
printable_in_line : (text : List ℕ) → AllByRecursion (λ c. (32 ≤ c) × (c ≤ 126)) text → list_all is_in_line text ≡ true
printable_in_line [] all = refl
printable_in_line (c ∷ cs) all =
    let low = all.0.0 in
    let e : eqb c 10 ≡ false = grind (arith, nat_tests) in
    rw e (printable_in_line cs all.1)

pub tag_text_in_line : (text : List ℕ) → IsTagText text → list_all is_in_line text ≡ true
tag_text_in_line text h = printable_in_line text h.printable

-- ---- a tag

-- a name has bytes of names, at least one
abbrev pub is_tag_name : List ℕ → Bool
is_tag_name [] = false
is_tag_name (n ∷ ns) = list_all is_name_byte (n ∷ ns)

-- no white space is before a name
no_gap : (n : ℕ) (rest : List ℕ) → is_name_byte n ≡ true → after_gap (n ∷ rest) ≡ n ∷ rest
no_gap n rest h =
    let no : (k : ℕ) → is_name_byte k ≡ false → eqb n k ≡ false = λ k e. differs is_name_byte n k h e in
    sym (gap_same (n ∷ rest)) ∙ rw (no 32 refl, no 9 refl, no 10 refl, no 13 refl) refl

-- the rest of a tag after its name: a space, the string, `]`
with_name_written : (n : ℕ) (ns text rest : List ℕ) → list_all is_in_line text ≡ true
    → with_tag_name (n ∷ ns) (32 ∷ 34 ∷ (escaped text ++ 34 ∷ 93 ∷ rest))
    ≡ (Tag (n ∷ ns) (escaped text) (length (escaped text ++ 34 ∷ 93 ∷ rest)), rest)
with_name_written n ns text rest h =
    let string : List ℕ = escaped text ++ 34 ∷ 93 ∷ rest in
    ap (λ xs. with_string (n ∷ ns) (after_byte 34 xs)) (sym (gap_same (32 ∷ 34 ∷ string)))
    ∙ ap (with_text (n ∷ ns) (length string)) (string_written text (93 ∷ rest) h)
    ∙ ap (λ xs. closed (n ∷ ns) (length string) (escaped text) (after_byte 93 xs)) (sym (gap_same (93 ∷ rest)))

-- the whole tag, after its `[`
tag_written : (n : ℕ) (ns text rest : List ℕ) → list_all is_name_byte (n ∷ ns) ≡ true → list_all is_in_line text ≡ true
    → tag_by_parts (n ∷ (ns ++ 32 ∷ 34 ∷ (escaped text ++ 34 ∷ 93 ∷ rest)))
    ≡ (Tag (n ∷ ns) (escaped text) (length (escaped text ++ 34 ∷ 93 ∷ rest)), rest)
tag_written n ns text rest name h =
    let tail : List ℕ = 34 ∷ (escaped text ++ 34 ∷ 93 ∷ rest) in
    let inner : List ℕ = n ∷ (ns ++ 32 ∷ tail) in
    let both = and_parts (is_name_byte n) (list_all is_name_byte ns) name in
    let run = whole_run is_name_byte (n ∷ ns) 32 tail name refl in
    ap (λ xs. with_tag_name (take_while is_name_byte xs) (drop (prefix_len is_name_byte xs) xs))
    (no_gap n (ns ++ 32 ∷ tail) both.0)
    ∙ ap (λ xs. with_tag_name xs (drop (prefix_len is_name_byte inner) inner)) run.taken
    ∙ ap (with_tag_name (n ∷ ns)) run.left
    ∙ with_name_written n ns text rest h

pub tag_token : (begins : Bool) (name text rest : List ℕ) → is_tag_name name ≡ true → list_all is_in_line text ≡ true
    → token_at begins 91 (name ++ 32 ∷ 34 ∷ (escaped text ++ 34 ∷ 93 ∷ rest))
    ≡ (Tag name (escaped text) (length (escaped text ++ 34 ∷ 93 ∷ rest)), rest)
unfolding token_at
tag_token begins [] text rest name h = absurd (cc)
tag_token begins (n ∷ ns) text rest name h =
    no_percent begins 91 (n ∷ (ns ++ 32 ∷ 34 ∷ (escaped text ++ 34 ∷ 93 ∷ rest))) refl
    ∙ parts_are (n ∷ (ns ++ 32 ∷ 34 ∷ (escaped text ++ 34 ∷ 93 ∷ rest))) ∙ tag_written n ns text rest name h

-- a tag's line as its bytes
pub tag_line_bytes : (name text rest : List ℕ)
    → tag_line name text ++ rest ≡ 91 ∷ (name ++ 32 ∷ 34 ∷ (escaped text ++ 34 ∷ 93 ∷ rest))
tag_line_bytes name text rest = simp append_assoc
