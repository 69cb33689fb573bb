-- A tag's string, byte by byte, as `split_string` goes over it: it ends at the first quote that no backslash keeps, and
-- there is none if the line ends first. By the loop's invariant the bytes before an offset, put before the string of
-- the rest, are the whole string; for each way through a round there is a lemma (place_kept, place_other, place_line,
-- place_quote). Also, a tag without its `]` is a bad tag (tag_unclosed).
use Rattle.std.proofs.Common.{◌≡◌, ◌≢◌, ℕ, ◌+◌, ◌-◌, ◌<◌, Bool, true, false, cond, eqb, List, [], ◌∷◌, ◌++◌, length, get_or, take, drop, Option, Some, None, refl, sym, ap, ◌∙◌, append_assoc, append-nil, add-one, arith, take-suc}
use Rattle.std.proofs.{lemmas.Bool.Decides.nat_tests, lemmas.List.at_drop_more, lemmas.List.take_rest}
use Rattle.std.specs.List.{prefix_len, take_while}
use Rattle.pgn_tokens.specs.Tokens.{Bad_tag, after_gap, onto, string_at, after_next}
use Rattle.byte_devices.specs.Bytes.{is_name_byte}
use Rattle.pgn_tokens.specs.shared.TagParts.{closed, with_text, with_string, with_tag_name, tag_by_parts}

-- the string of the text, whose first byte is kept by a backslash before it if the flag is true
abbrev pub string_after : Bool → List ℕ → Option (List ℕ × List ℕ)
string_after false text = string_at text
string_after true [] = None
string_after true (c ∷ rest) = cond (eqb c 10) None (onto (c ∷ []) (string_at rest))

-- putting no bytes before a string changes nothing; putting `front ++ more` there is putting `more`, and then `front`
pub onto-nil : (o : Option (List ℕ × List ℕ)) → onto [] o ≡ o
onto-nil None = refl
onto-nil (Some found) = refl

pub onto-append : (front more : List ℕ) (o : Option (List ℕ × List ℕ)) → onto (front ++ more) o
    ≡ onto front (onto more o)
onto-append front more None = refl
onto-append front more (Some found) = ap (λ xs. Some (xs, found.1)) (append_assoc front more found.0)

-- a byte that ends the line: there is no string
string_line : (kept : Bool) (c : ℕ) (rest : List ℕ) → eqb c 10 ≡ true → eqb c 34 ≡ false
    → string_after kept (c ∷ rest) ≡ None
string_line true c rest line quote = rw line refl
string_line false c [] line quote = rw quote refl
string_line false c (d ∷ rest) line quote = rw (quote, line) refl

-- the closing quote
pub string_quote : (c : ℕ) (rest : List ℕ) → eqb c 34 ≡ true → string_at (c ∷ rest) ≡ Some ([], rest)
string_quote c [] quote = rw quote refl
string_quote c (d ∷ rest) quote = rw quote refl

-- a byte that a backslash keeps
string_kept : (c : ℕ) (rest : List ℕ) → eqb c 10 ≡ false
    → string_after true (c ∷ rest) ≡ onto (c ∷ []) (string_after false rest)
string_kept c rest line = rw line refl

-- any other byte
pub string_other : (c : ℕ) (rest : List ℕ) → eqb c 10 ≡ false → eqb c 34 ≡ false
    → string_at (c ∷ rest) ≡ onto (c ∷ []) (string_after (eqb c 92) rest)
string_other c [] line quote = rw quote (by_test (eqb c 92))
  where
    by_test : (b : Bool) → None ≡ onto (c ∷ []) (string_after b [])
    by_test true = refl
    by_test false = refl
string_other c (d ∷ rest) line quote = rw (quote, line) (by_test (eqb c 92))
  where
    by_kept : (b : Bool) → cond b None (onto (c ∷ d ∷ []) (string_at rest))
        ≡ onto (c ∷ []) (cond b None (onto (d ∷ []) (string_at rest)))
    by_kept true = refl
    by_kept false = onto-append (c ∷ []) (d ∷ []) (string_at rest)

    by_test : (b : Bool) → cond b (cond (eqb d 10) None (onto (c ∷ d ∷ []) (string_at rest)))
        (onto (c ∷ []) (string_at (d ∷ rest))) ≡ onto (c ∷ []) (string_after b (d ∷ rest))
    by_test true = by_kept (eqb d 10)
    by_test false = refl

-- ---- a round of the loop at an offset of the text; `kept`: whether a backslash keeps the byte there

it : {n m : ℕ} → n ≡ m → eqb n m ≡ true
it {n} {m} e = grind (arith, nat_tests)

not_it : {n m : ℕ} → n ≢ m → eqb n m ≡ false
not_it {n} {m} h = grind (arith, nat_tests)

-- the byte at the offset goes over from the rest to the bytes before it
at_place_more : (text : List ℕ) (offset : ℕ) (b : Bool) → offset < length text
    → onto (take (offset + 1) text) (string_after b (drop (offset + 1) text)) ≡ onto (take offset text)
    (onto (get_or text offset 0 ∷ []) (string_after b (drop (offset + 1) text)))
at_place_more text offset b h = ap (λ front. onto front (string_after b (drop (offset + 1) text)))
    (ap (λ n. take n text) (add-one offset) ∙ take-suc text offset 0 h)
    ∙ onto-append (take offset text) (get_or text offset 0 ∷ []) (string_after b (drop (offset + 1) text))

-- a kept byte is of the string, whatever it is but byte 10
pub place_kept : (text : List ℕ) (offset : ℕ) (kept next : Bool) → offset < length text → kept ≡ true → next ≡ false
    → get_or text offset 0 ≢ 10 → onto (take (offset + 1) text) (string_after next (drop (offset + 1) text))
    ≡ onto (take offset text) (string_after kept (drop offset text))
place_kept text offset kept next h k n line =
    rw (k, n) (at_place_more text offset false h
    ∙ ap (onto (take offset text))
    (sym (at_drop_more (string_after true) text offset 0 h
    ∙ string_kept (get_or text offset 0) (drop (offset + 1) text) (not_it line))))

-- another byte is of the string; if it is a backslash (byte 92), the next byte is kept
pub place_other : (text : List ℕ) (offset : ℕ) (kept next : Bool) → offset < length text → kept ≡ false
    → next ≡ eqb (get_or text offset 0) 92 → get_or text offset 0 ≢ 10 → get_or text offset 0 ≢ 34
    → onto (take (offset + 1) text) (string_after next (drop (offset + 1) text)) ≡ onto (take offset text)
    (string_after kept (drop offset text))
place_other text offset kept next h k n line quote =
    rw (k, n) (at_place_more text offset (eqb (get_or text offset 0) 92) h
    ∙ ap (onto (take offset text))
    (sym (at_drop_more string_at text offset 0 h ∙ string_other (get_or text offset 0) (drop (offset + 1) text)
    (not_it line) (not_it quote))))

-- a byte 10: there is no string
pub place_line : (text : List ℕ) (offset : ℕ) (kept : Bool) → offset < length text → get_or text offset 0 ≡ 10
    → onto (take offset text) (string_after kept (drop offset text)) ≡ None
place_line text offset kept h line =
    ap (onto (take offset text))
    (at_drop_more (string_after kept) text offset 0 h ∙ string_line kept (get_or text offset 0) (drop (offset + 1) text)
    (it line) (grind (arith, nat_tests)))

-- a quote (byte 34) that isn't kept ends the string
pub place_quote : (text : List ℕ) (offset : ℕ) (kept : Bool) → offset < length text → kept ≡ false
    → get_or text offset 0 ≡ 34 → onto (take offset text) (string_after kept (drop offset text))
    ≡ Some (take offset text, take (length text - (offset + 1)) (drop (offset + 1) text))
place_quote text offset kept h k quote =
    let front : take offset text ++ [] ≡ take offset text = append-nil (take offset text) in
    let rest : take (length text - (offset + 1)) (drop (offset + 1) text) ≡ drop (offset + 1) text =
    take_rest text (offset + 1) in
    rw k (ap (onto (take offset text))
    (at_drop_more string_at text offset 0 h ∙ string_quote (get_or text offset 0) (drop (offset + 1) text) (it quote))
    ∙ rw (front, rest) refl)

-- a tag whose string is not followed by `]` (byte 93) is a bad tag
unclosed : (name rest string text tail : List ℕ) → Some string ≡ after_next 34 rest
    → Some (text, tail) ≡ string_at string → None ≡ after_next 93 tail → with_tag_name name rest ≡ (Bad_tag, [])
unclosed [] rest string text tail a b e = refl
unclosed (n ∷ ns) rest string text tail a b e =
    ap (with_string (n ∷ ns)) (sym a) ∙ ap (with_text (n ∷ ns) (length string)) (sym b)
    ∙ ap (closed (n ∷ ns) (length string) text) (sym e)

-- the same for the text after the tag's `[`, with each part as `read_tag` has found it
pub tag_unclosed : (from inner name rest string text tail : List ℕ) → inner ≡ after_gap from
    → name ≡ take_while is_name_byte inner → rest ≡ drop (prefix_len is_name_byte inner) inner
    → Some string ≡ after_next 34 rest → Some (text, tail) ≡ string_at string → None ≡ after_next 93 tail
    → tag_by_parts from ≡ (Bad_tag, [])
tag_unclosed from inner name rest string text tail i n r a b e =
    ap (λ xs. with_tag_name (take_while is_name_byte xs) (drop (prefix_len is_name_byte xs) xs)) (sym i)
    ∙ ap (λ xs. with_tag_name xs (drop (prefix_len is_name_byte inner) inner)) (sym n)
    ∙ ap (with_tag_name name) (sym r)
    ∙ unclosed name rest string text tail a b e
