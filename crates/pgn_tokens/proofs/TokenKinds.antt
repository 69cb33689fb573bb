-- A token: what the relation `IsOf` calls a token of some kind is read as the token of that kind, if it is the longest
-- such beginning of the text (token_read); and what is read is such a token, or a fault where no token of any kind
-- begins (token_says). The former goes by the kinds, the latter by the text's first byte.
use Rattle.std.proofs.Common.{◌≡◌, ℕ, suc, ◌+◌, ◌<◌, ◌≤◌, Bool, true, false, cond, not, eqb, List, [], ◌∷◌, ◌++◌, length, take, drop, Option, Some, None, refl, sym, ap, subst, ◌∙◌, inl, inr, arith, ◌&&◌, ◌||◌}
use Rattle.std.specs.List.{list_all, list_any, prefix_len, take_while}
use Rattle.std.proofs.lemmas.Bool.{and_parts, or_parts, or_cases, eqb-true}
use Rattle.std.proofs.lemmas.List.{take-append-drop, append-nil, append_assoc, length-append, length-drop, nil_from_length}
use Rattle.std.proofs.lemmas.List.Folds.{list_all-append}
use Rattle.byte_devices.specs.Bytes.{is_digit}
use Rattle.pgn_tokens.specs.Tokens.{Token, Skip, Tag, Word, Bad_tag, Unclosed_comment, Unclosed_variation, Bad, is_white_space, is_word_byte, line_end, after_brace, comment_at, variation_at, token_at}
use Rattle.pgn_tokens.specs.{shared.TagParts.tag_by_parts, Split.lacks, Split.skips_line, Split.HasOpenComment}
use Rattle.pgn_tokens.proofs.TagParts.{parts_are}
use Rattle.pgn_tokens.specs.shared.Kinds.{Kind, Blank, Line, Comment, Nag, Variation, Tag_pair, Asterisk, Symbol, IsOf, IsLongest, token_of, HasNoToken, HasUnclosedComment, IsFault}
use Rattle.pgn_tokens.proofs.ByteRuns.{differs, pick, run_drop, run_take, run_passes, run_stops, longest_run, stops_run, brace_found, brace_missing, BraceSays, brace_says}
use Rattle.pgn_tokens.proofs.VariationInsides.{Leaves, closed, commented, unclosed, leaves, inside_read, open_read, open_comment}
use Rattle.pgn_tokens.proofs.TagSplits.{tag_begins, tag_read, TagLeaves, bad, good, tag_leaves}

-- the first token of a text and what is left after it, if the flag says whether a line begins there; of an empty text a
-- fault
abbrev pub first : Bool → List ℕ → Token × List ℕ
first b [] = (Bad, [])
first b (c ∷ rest) = token_at b c rest

-- ---- what is read, by the first byte (36 is `$`, 123 `{`, 40 `(`, 91 `[`, 42 `*`)

-- a byte that begins no `%` line begins the same token where a line begins and where none does
pub no_percent : (begins : Bool) (c : ℕ) (rest : List ℕ) → eqb c 37 ≡ false
    → token_at begins c rest ≡ token_at false c rest
unfolding token_at
no_percent true c rest e = rw e refl
no_percent false c rest e = refl

-- a byte of a word begins one, wherever it is
pub begins_word : (begins : Bool) (c : ℕ) (rest : List ℕ) → is_word_byte c ≡ true
    → token_at begins c rest
    ≡ (Word (take_while is_word_byte (c ∷ rest)), drop (prefix_len is_word_byte (c ∷ rest)) (c ∷ rest))
unfolding token_at
begins_word begins c rest h =
    let no : (k : ℕ) → is_word_byte k ≡ false → eqb c k ≡ false = λ k e. differs is_word_byte c k h e in
    no_percent begins c rest (no 37 refl)
    ∙ rw (
      no 32 refl,
      no 9 refl,
      no 10 refl,
      no 13 refl,
      no 46 refl,
      no 123 refl,
      no 59 refl,
      no 36 refl,
      no 40 refl,
      no 91 refl,
      no 42 refl,
      h,
    ) refl

-- each of these reads one kind of token: a skipped line, a `$` glyph, white space or a dot, a comment, a variation, a
-- tag, and `*`
line_at : (b : Bool) (c : ℕ) (rest : List ℕ) → skips_line b c ≡ true → token_at b c rest ≡ (Skip, line_end rest)
unfolding token_at
line_at b c rest h = elim (or_cases (b && eqb c 37) (eqb c 59) h) [
  | inl e ↦ rw e refl
  | inr e ↦ (let is : c ≡ 59 = eqb-true c 59 e in ap (λ k. token_at b k rest) is ∙ no_percent b 59 rest refl)
]

glyph_at : (b : Bool) (rest : List ℕ) → token_at b 36 rest ≡ (Skip, drop (prefix_len is_digit rest) rest)
unfolding token_at
glyph_at b rest = no_percent b 36 rest refl

blank_at : (b : Bool) (c : ℕ) (rest : List ℕ) → (is_white_space c || eqb c 46) ≡ true → token_at b c rest ≡ (Skip, rest)
unfolding token_at
blank_at b c rest h =
    no_percent b c rest (differs (λ k. is_white_space k || eqb k 46) c 37 h refl) ∙ rw h refl

brace_at : (b : Bool) (rest : List ℕ) → token_at b 123 rest ≡ comment_at (suc (length rest)) (after_brace rest)
unfolding token_at
brace_at b rest = no_percent b 123 rest refl

open_at : (b : Bool) (rest : List ℕ) → token_at b 40 rest ≡ variation_at None false 1 rest
unfolding token_at
open_at b rest = no_percent b 40 rest refl

bracket_at : (b : Bool) (rest : List ℕ) → token_at b 91 rest ≡ tag_by_parts rest
unfolding token_at
bracket_at b rest = no_percent b 91 rest refl ∙ parts_are rest

asterisk_at : (b : Bool) (rest : List ℕ) → token_at b 42 rest ≡ (Word (42 ∷ []), rest)
unfolding token_at
asterisk_at b rest = no_percent b 42 rest refl

-- ---- from the relation to the reader: kinds of which no token begins another

blank_read : (b : Bool) (front r : List ℕ) → IsOf b Blank front → first b (front ++ r) ≡ (Skip, r)
blank_read b front r (c, is, h) = ap (λ xs. first b (xs ++ r)) is ∙ blank_at b c r h

comment_read : (b : Bool) (front r : List ℕ) → IsOf b Comment front → first b (front ++ r) ≡ (Skip, r)
comment_read b front r (body, is, lack) =
    ap (λ xs. first b (xs ++ r)) is
    ∙ ap (token_at b 123) (append_assoc body (125 ∷ []) r)
    ∙ brace_at b (body ++ 125 ∷ r)
    ∙ ap (comment_at (suc (length (body ++ 125 ∷ r)))) (brace_found body r lack)

variation_read : (b : Bool) (front r : List ℕ) → IsOf b Variation front → first b (front ++ r) ≡ (Skip, r)
variation_read b front r (body, is, h) =
    ap (λ xs. first b (xs ++ r)) is
    ∙ ap (token_at b 40) (append_assoc body (41 ∷ []) r)
    ∙ open_at b (body ++ 41 ∷ r)
    ∙ inside_read h 0 41 r refl

tag_first : (b : Bool) (name string closing : List ℕ) (front r : List ℕ)
    → IsOf b (Tag_pair name string closing) front
    → first b (front ++ r) ≡ (Tag name string (length (string ++ closing) + length r), r)
tag_first b name string closing front r t =
    let head = tag_begins name string closing front t in
    ap (λ xs. first b (xs ++ r)) head.1 ∙ bracket_at b (head.0 ++ r)
    ∙ tag_read name string closing front head.0 r t head.1

asterisk_read : (b : Bool) (front r : List ℕ) → IsOf b Asterisk front → first b (front ++ r) ≡ (Word front, r)
asterisk_read b front r is =
    ap (λ xs. first b (xs ++ r)) is ∙ asterisk_at b r ∙ ap (λ xs. (Word xs, r)) (sym is)

-- such a token is the longest
fixed : (b : Bool) (kind : Kind) (front r : List ℕ)
    → ((f s : List ℕ) → IsOf b kind f → (first b (f ++ s)).1 ≡ s) → IsOf b kind front → IsLongest (IsOf b kind) front r
fixed b kind front r rests is = record {
  is = is;
  longest = λ more others same h.
      let all : front ++ r ≡ (front ++ more) ++ others = ap (λ xs. front ++ xs) same
      ∙ sym (append_assoc front more others) in
      let one : r ≡ others = sym (rests front r is) ∙ ap (λ xs. (first b xs).1) all ∙ rests (front ++ more) others h in
      nil_from_length more (omega (arith, ap length same, length-append more others, ap length one));
}

-- ---- kinds whose tokens may be continued by more bytes: skipped lines, glyphs and words

append_one : (p : ℕ → Bool) (xs ys : List ℕ) → list_all p xs ≡ true → list_all p ys ≡ true
    → list_all p (xs ++ ys) ≡ true
append_one p xs ys h k = list_all-append p xs ys ∙ rw (h, k) refl

last_one : (p : ℕ → Bool) (xs : List ℕ) (d : ℕ) (ds : List ℕ) → list_all p (xs ++ d ∷ ds) ≡ true → p d ≡ true
last_one p xs d ds h =
    (and_parts (p d) (list_all p ds)
    (and_parts (list_all p xs) (list_all p (d ∷ ds)) (sym (list_all-append p xs (d ∷ ds)) ∙ h)).1).0

one_of : (p : ℕ → Bool) (d : ℕ) → p d ≡ true → list_all p (d ∷ []) ≡ true
one_of p d h = rw h refl

-- after the longest token of such a kind comes no byte that could continue it (.._stops), so it is read (.._read)
line_stops : (b : Bool) (front r : List ℕ) → IsLongest (IsOf b Line) front r → prefix_len (λ k. not (eqb k 10)) r ≡ 0
line_stops b front r h = by_parts h.is
  where
    by_parts : IsOf b Line front → prefix_len (λ k. not (eqb k 10)) r ≡ 0
    by_parts (c, rest, is, skip, lack) = stops_run (IsOf b Line) (λ k. not (eqb k 10)) front r h
        (λ d e. (
          c,
          rest ++ d ∷ [],
          ap (λ xs. xs ++ d ∷ []) is,
          skip,
          append_one (λ k. not (eqb k 10)) rest (d ∷ []) lack (one_of (λ k. not (eqb k 10)) d e),
        ))

line_read : (b : Bool) (front r : List ℕ) → IsLongest (IsOf b Line) front r → first b (front ++ r) ≡ (Skip, r)
line_read b front r h = by_parts h.is
  where
    by_parts : IsOf b Line front → first b (front ++ r) ≡ (Skip, r)
    by_parts (c, rest, is, skip, lack) =
        ap (λ xs. first b (xs ++ r)) is ∙ line_at b c (rest ++ r) skip
        ∙ ap (λ xs. (Skip, xs)) (run_drop (λ k. not (eqb k 10)) rest r lack (line_stops b front r h))

glyph_stops : (b : Bool) (front r : List ℕ) → IsLongest (IsOf b Nag) front r → prefix_len is_digit r ≡ 0
glyph_stops b front r h = by_parts h.is
  where
    by_parts : IsOf b Nag front → prefix_len is_digit r ≡ 0
    by_parts (digits, is, all) = stops_run (IsOf b Nag) is_digit front r h
        (λ d e. (
          digits ++ d ∷ [],
          ap (λ xs. xs ++ d ∷ []) is,
          append_one is_digit digits (d ∷ []) all
              (one_of is_digit d e),
        ))

glyph_read : (b : Bool) (front r : List ℕ) → IsLongest (IsOf b Nag) front r → first b (front ++ r) ≡ (Skip, r)
glyph_read b front r h = by_parts h.is
  where
    by_parts : IsOf b Nag front → first b (front ++ r) ≡ (Skip, r)
    by_parts (digits, is, all) =
        ap (λ xs. first b (xs ++ r)) is ∙ glyph_at b (digits ++ r)
        ∙ ap (λ xs. (Skip, xs)) (run_drop is_digit digits r all (glyph_stops b front r h))

word_stops : (b : Bool) (front r : List ℕ) → IsLongest (IsOf b Symbol) front r → prefix_len is_word_byte r ≡ 0
word_stops b front r h = stops_run (IsOf b Symbol) is_word_byte front r h
    (λ d e. (
      omega (arith, length-append front (d ∷ [])),
      append_one is_word_byte front (d ∷ []) h.is.1 (one_of is_word_byte d e),
    ))

word_read : (b : Bool) (front r : List ℕ) → IsLongest (IsOf b Symbol) front r → first b (front ++ r) ≡ (Word front, r)
word_read b [] r h = absurd (omega (arith, h.is.0))
word_read b (c ∷ front) r h =
    let stop = word_stops b (c ∷ front) r h in
    begins_word b c (front ++ r) (and_parts (is_word_byte c) (list_all is_word_byte front) h.is.1).0
    ∙ ap (λ xs. (Word xs, drop (prefix_len is_word_byte (c ∷ (front ++ r))) (c ∷ (front ++ r))))
    (run_take is_word_byte (c ∷ front) r h.is.1 stop)
    ∙ ap (λ xs. (Word (c ∷ front), xs)) (run_drop is_word_byte (c ∷ front) r h.is.1 stop)

-- ---- all kinds

-- the longest token of a kind at a text's front is read, and the rest is left
pub token_read : (b : Bool) (kind : Kind) (front r : List ℕ) → IsLongest (IsOf b kind) front r
    → first b (front ++ r) ≡ (token_of kind front (length r), r)
token_read b Blank front r h = blank_read b front r h.is
token_read b Line front r h = line_read b front r h
token_read b Comment front r h = comment_read b front r h.is
token_read b Nag front r h = glyph_read b front r h
token_read b Variation front r h = variation_read b front r h.is
token_read b (Tag_pair name string closing) front r h = tag_first b name string closing front r h.is
token_read b Asterisk front r h = asterisk_read b front r h.is
token_read b Symbol front r h = word_read b front r h

-- ---- where more text follows

-- a token has a byte
pub token_some : (b : Bool) (kind : Kind) (front : List ℕ) → IsOf b kind front → 0 < length front
token_some b Blank front (c, is, h) = omega (arith, ap length is)
token_some b Line front (c, rest, is, skip, lack) = omega (arith, ap length is)
token_some b Comment front (body, is, lack) = omega (arith, ap length is)
token_some b Nag front (digits, is, all) = omega (arith, ap length is)
token_some b Variation front (body, is, h) = omega (arith, ap length is)
token_some b (Tag_pair name string closing) front h =
    let head = tag_begins name string closing front h in omega (arith, ap length head.1)
token_some b Asterisk front is = omega (arith, ap length is)
token_some b Symbol front h = h.0

pub not_empty : (b : Bool) (kind : Kind) → IsOf b kind [] → ⊥
not_empty b kind h = absurd (omega (arith, token_some b kind [] h))

-- a byte 10 is in no line, glyph or word
ten_skips_none : (b : Bool) → skips_line b 10 ≡ false
ten_skips_none true = refl
ten_skips_none false = refl

line_no_end : (b : Bool) (front : List ℕ) → IsOf b Line (front ++ 10 ∷ []) → ⊥
line_no_end b [] (c, rest, is, skip, lack) =
    let ten : c ≡ 10 = cc in
    let no : true ≡ false = sym skip ∙ ap (skips_line b) ten ∙ ten_skips_none b in absurd (cc)
line_no_end b (k ∷ front) (c, rest, is, skip, lack) =
    let same : rest ≡ front ++ 10 ∷ [] = cc in
    let no : false ≡ true = last_one (λ j. not (eqb j 10)) front 10 [] (subst (λ xs. lacks 10 xs ≡ true) same lack) in
    absurd (cc)

glyph_no_end : (b : Bool) (front : List ℕ) → IsOf b Nag (front ++ 10 ∷ []) → ⊥
glyph_no_end b [] (digits, is, all) = let ten : ◌≡◌ {A = ℕ} 10 36 = cc in absurd (omega (arith, ten))
glyph_no_end b (k ∷ front) (digits, is, all) =
    let same : digits ≡ front ++ 10 ∷ [] = cc in
    let no : false ≡ true = last_one is_digit front 10 [] (subst (λ xs. list_all is_digit xs ≡ true) same all) in
    absurd (cc)

word_no_end : (b : Bool) (front : List ℕ) → IsOf b Symbol (front ++ 10 ∷ []) → ⊥
word_no_end b front h = let no : false ≡ true = last_one is_word_byte front 10 [] h.1 in absurd (cc)

-- a byte that continues one passes its test
line_passes : (b : Bool) (front : List ℕ) → IsOf b Line front → (d : ℕ) (ds : List ℕ) → IsOf b Line (front ++ d ∷ ds)
    → not (eqb d 10) ≡ true
line_passes b [] (c, rest, is, skip, lack) d ds h = absurd (cc)
line_passes b (k ∷ front) h d ds (c, rest, is, skip, lack) =
    let same : rest ≡ front ++ d ∷ ds = cc in
    last_one (λ j. not (eqb j 10)) front d ds (subst (λ xs. lacks 10 xs ≡ true) same lack)

glyph_passes : (b : Bool) (front : List ℕ) → IsOf b Nag front → (d : ℕ) (ds : List ℕ) → IsOf b Nag (front ++ d ∷ ds)
    → is_digit d ≡ true
glyph_passes b [] (digits, is, all) d ds h = absurd (cc)
glyph_passes b (k ∷ front) h d ds (digits, is, all) =
    let same : digits ≡ front ++ d ∷ ds = cc in
    last_one is_digit front d ds (subst (λ xs. list_all is_digit xs ≡ true) same all)

-- a byte that ends a run ends it whatever follows the text
stops_still : (p : ℕ → Bool) (d : ℕ) (ds more : List ℕ) → prefix_len p (d ∷ ds) ≡ 0
    → prefix_len p (d ∷ (ds ++ more)) ≡ 0
stops_still p d ds more = by_test (p d)
  where
    by_test : (t : Bool) → cond t (1 + prefix_len p ds) 0 ≡ 0 → cond t (1 + prefix_len p (ds ++ more)) 0 ≡ 0
    by_test true h = absurd (omega (arith, h))
    by_test false h = refl

-- the longest token of a kind that goes on, in a text that ends with byte 10, stays the longest if more text follows:
-- no such token has a byte 10 last, so the text goes on after it, with a byte that can't continue it
run_stays : (b : Bool) (kind : Kind) (p : ℕ → Bool) (front r text after : List ℕ) → IsOf b kind front
    → prefix_len p r ≡ 0 → ((f : List ℕ) → IsOf b kind (f ++ 10 ∷ []) → ⊥)
    → ((d : ℕ) (ds : List ℕ) → IsOf b kind (front ++ d ∷ ds) → p d ≡ true) → front ++ r ≡ text ++ 10 ∷ []
    → IsLongest (IsOf b kind) front (r ++ after)
run_stays b kind p front [] text after is stop no_end passes same =
    absurd (no_end text (subst (IsOf b kind) (sym (append-nil front) ∙ same) is))
run_stays b kind p front (d ∷ ds) text after is stop no_end passes same =
    longest_run (IsOf b kind) p front (d ∷ (ds ++ after)) passes (stops_still p d ds after stop) is

-- the longest token of a text that ends with byte 10 is the longest whatever follows that text
pub stays_longest : (b : Bool) (kind : Kind) (front r text after : List ℕ) → IsLongest (IsOf b kind) front r
    → front ++ r ≡ text ++ 10 ∷ [] → IsLongest (IsOf b kind) front (r ++ after)
stays_longest b Blank front r text after h same =
    fixed b Blank front (r ++ after) (λ f s k. ap (λ t. t.1) (blank_read b f s k)) h.is
stays_longest b Line front r text after h same =
    run_stays b Line (λ k. not (eqb k 10)) front r text after h.is (line_stops b front r h) (line_no_end b)
    (line_passes b front h.is) same
stays_longest b Comment front r text after h same =
    fixed b Comment front (r ++ after) (λ f s k. ap (λ t. t.1) (comment_read b f s k)) h.is
stays_longest b Nag front r text after h same =
    run_stays b Nag is_digit front r text after h.is (glyph_stops b front r h) (glyph_no_end b)
    (glyph_passes b front h.is) same
stays_longest b Variation front r text after h same =
    fixed b Variation front (r ++ after) (λ f s k. ap (λ t. t.1) (variation_read b f s k)) h.is
stays_longest b (Tag_pair name string closing) front r text after h same =
    fixed b (Tag_pair name string closing) front (r ++ after)
    (λ f s k. ap (λ t. t.1) (tag_first b name string closing f s k)) h.is
stays_longest b Asterisk front r text after h same =
    fixed b Asterisk front (r ++ after) (λ f s k. ap (λ t. t.1) (asterisk_read b f s k)) h.is
stays_longest b Symbol front r text after h same =
    run_stays b Symbol is_word_byte front r text after h.is (word_stops b front r h) (word_no_end b)
    (λ d ds k. last_one is_word_byte front d ds k.1) same

-- whether a token is one that can't be read
abbrev pub is_fault : Token → Bool
is_fault Skip = false
is_fault (Tag name string left) = false
is_fault (Word word) = false
is_fault Bad_tag = true
is_fault (Unclosed_comment left) = true
is_fault Unclosed_variation = true
is_fault Bad = true

-- a text that begins with a token begins with no fault
readable : (b : Bool) (kind : Kind) (front r : List ℕ) → IsOf b kind front → is_fault (first b (front ++ r)).0 ≡ false
readable b Blank front r h = ap (λ t. is_fault t.0) (blank_read b front r h)
readable b Line front r (c, rest, is, skip, lack) =
    ap (λ xs. is_fault (first b (xs ++ r)).0) is ∙ ap (λ t. is_fault t.0) (line_at b c (rest ++ r) skip)
readable b Comment front r h = ap (λ t. is_fault t.0) (comment_read b front r h)
readable b Nag front r (digits, is, all) =
    ap (λ xs. is_fault (first b (xs ++ r)).0) is ∙ ap (λ t. is_fault t.0) (glyph_at b (digits ++ r))
readable b Variation front r h = ap (λ t. is_fault t.0) (variation_read b front r h)
readable b (Tag_pair name string closing) front r h = ap (λ t. is_fault t.0) (tag_first b name string closing front r h)
readable b Asterisk front r h = ap (λ t. is_fault t.0) (asterisk_read b front r h)
readable b Symbol [] r h = absurd (omega (arith, h.0))
readable b Symbol (c ∷ front) r h =
    ap (λ t. is_fault t.0)
    (begins_word b c (front ++ r) (and_parts (is_word_byte c) (list_all is_word_byte front) h.1).0)

-- what is left after a token is read is no more than what comes after any token there
run_left : (p : ℕ → Bool) (front rest : List ℕ) → list_all p front ≡ true
    → length (drop (prefix_len p (front ++ rest)) (front ++ rest)) ≤ length rest
run_left p [] rest h = omega (arith, length-drop (prefix_len p rest) rest)
run_left p (c ∷ front) rest h =
    let both = and_parts (p c) (list_all p front) h in
    let next : 1 + prefix_len p (front ++ rest) ≡ suc (prefix_len p (front ++ rest)) = omega arith in
    rw (both.0, next) (run_left p front rest both.1)

-- the same for a token of any kind: what is read there is at least as long
any_left : (b : Bool) (kind : Kind) (front r : List ℕ) → IsOf b kind front
    → length (first b (front ++ r)).1 ≤ length r
any_left b Blank front r h = omega (arith, ap (λ t. length t.1) (blank_read b front r h))
any_left b Line front r (c, rest, is, skip, lack) =
    let few : length (line_end (rest ++ r)) ≤ length r = run_left (λ k. not (eqb k 10)) rest r lack in
    omega (arith, few, ap (λ t. length t.1) (ap (λ xs. first b (xs ++ r)) is ∙ line_at b c (rest ++ r) skip))
any_left b Comment front r h = omega (arith, ap (λ t. length t.1) (comment_read b front r h))
any_left b Nag front r (digits, is, all) =
    let few = run_left is_digit digits r all in
    omega (arith, few, ap (λ t. length t.1) (ap (λ xs. first b (xs ++ r)) is ∙ glyph_at b (digits ++ r)))
any_left b Variation front r h = omega (arith, ap (λ t. length t.1) (variation_read b front r h))
any_left b (Tag_pair name string closing) front r h =
    omega (arith, ap (λ t. length t.1) (tag_first b name string closing front r h))
any_left b Asterisk front r h = omega (arith, ap (λ t. length t.1) (asterisk_read b front r h))
any_left b Symbol [] r h = absurd (omega (arith, h.0))
any_left b Symbol (c ∷ front) r h =
    let few = run_left is_word_byte (c ∷ front) r h.1 in
    omega (
      arith,
      few,
      ap (λ t. length t.1)
          (begins_word b c (front ++ r) (and_parts (is_word_byte c) (list_all is_word_byte front) h.1).0),
    )

-- the longest token of a kind is the longest of all
pub longest_of_all : (b : Bool) (kind other : Kind) (front rest more after : List ℕ)
    → IsLongest (IsOf b kind) front rest → front ++ rest ≡ more ++ after → IsOf b other more
    → length more ≤ length front
longest_of_all b kind other front rest more after long same h =
    let few : length (first b (more ++ after)).1 ≤ length after = any_left b other more after h in
    let left : length (first b (more ++ after)).1 ≡ length rest =
    ap (λ xs. length (first b xs).1) (sym same) ∙ ap (λ t. length t.1) (token_read b kind front rest long) in
    omega (arith, few, left, ap length same, length-append front rest, length-append more after)

-- where a fault is read, no token of any kind begins
pub no_token_of : (b : Bool) (text : List ℕ) → is_fault (first b text).0 ≡ true → HasNoToken b text
no_token_of b text fault kind front r is h =
    let fine : is_fault (first b text).0 ≡ false = ap (λ xs. is_fault (first b xs).0) is ∙ readable b kind front r h in
    absurd (cc)

-- ---- from the reader to the relation

-- what is read at a text's front: the longest token of some kind, and the rest after it; or a fault that is one by the
-- relation
pub data TokenSays (b : Bool) (text : List ℕ) : Token × List ℕ → Type 0 where
  known : (kind : Kind) (front rest : List ℕ) → text ≡ front ++ rest → IsLongest (IsOf b kind) front rest
      → TokenSays b text (token_of kind front (length rest), rest)
  faulty : (fault : Token) → is_fault fault ≡ true → IsFault text fault → TokenSays b text (fault, [])

-- a comment that isn't closed, also one in a variation, is read as that fault
pub comment_fault : (b : Bool) (text : List ℕ) (n : ℕ) → HasUnclosedComment text n
    → first b text ≡ (Unclosed_comment n, [])
comment_fault b text n (inl (comment, is, lack, here)) =
    ap (first b) is ∙ brace_at b comment
    ∙ ap (comment_at (suc (length comment))) (brace_missing comment lack)
    ∙ ap (λ k. (Unclosed_comment k, [])) (sym (here ∙ ap length is))
comment_fault b text n (inr (inner, is, h)) = ap (first b) is ∙ open_at b inner ∙ open_read h 0

-- so it is, for each text that isn't empty
pub token_says : (b : Bool) (c : ℕ) (rest : List ℕ) → TokenSays b (c ∷ rest) (token_at b c rest)
unfolding token_at
token_says b c rest = by_line (skips_line b c) refl
  where
    Goal : Token × List ℕ → Type 0
    Goal = TokenSays b (c ∷ rest)

    by_skip : skips_line b c ≡ true → Goal (Skip, line_end rest)
    by_skip h =
        let p : ℕ → Bool = λ k. not (eqb k 10) in
        let body : List ℕ = take (prefix_len p rest) rest in
        let whole : rest ≡ body ++ line_end rest = sym (take-append-drop (prefix_len p rest) rest) in
        known Line (c ∷ body) (line_end rest) (ap (λ xs. c ∷ xs) whole)
        (longest_run (IsOf b Line) (λ k. not (eqb k 10)) (c ∷ body) (line_end rest)
        (λ d ds (k, tail, is, skip, lack). let same : tail ≡ body ++ d ∷ ds = cc in
        last_one (λ j. not (eqb j 10)) body d ds (subst (λ xs. lacks 10 xs ≡ true) same lack))
        (run_stops p rest)
        (c, body, refl, h, run_passes p rest))

    by_brace : c ≡ 123 → (o : Option (List ℕ)) → BraceSays rest o → Goal (comment_at (suc (length rest)) o)
    by_brace is None lack =
        faulty (Unclosed_comment (suc (length rest))) refl (inl (rest, ap (λ k. k ∷ rest) is, lack, refl))
    by_brace is (Some r) found =
        let front : List ℕ = 123 ∷ (found.inside ++ 125 ∷ []) in
        known Comment front r
        (ap (λ k. k ∷ rest) is ∙ ap (λ xs. 123 ∷ xs) (found.is ∙ sym (append_assoc found.inside (125 ∷ []) r)))
        (fixed b Comment front r (λ f s h. ap (λ t. t.1) (comment_read b f s h))
        (found.inside, refl, found.lacks_brace))

    by_digits : c ≡ 36 → Goal (Skip, drop (prefix_len is_digit rest) rest)
    by_digits is =
        let body : List ℕ = take (prefix_len is_digit rest) rest in
        let r : List ℕ = drop (prefix_len is_digit rest) rest in
        known Nag (36 ∷ body) r
        (ap (λ k. k ∷ rest) is ∙ ap (λ xs. 36 ∷ xs) (sym (take-append-drop (prefix_len is_digit rest) rest)))
        (longest_run (IsOf b Nag) is_digit (36 ∷ body) r
        (λ d ds (digits, same, all). let tail : digits ≡ body ++ d ∷ ds = cc in
        last_one is_digit body d ds (subst (λ xs. list_all is_digit xs ≡ true) tail all))
        (run_stops is_digit rest) (body, refl, run_passes is_digit rest))

    by_result : c ≡ 40 → (t : Token × List ℕ) → variation_at None false 1 rest ≡ t → Leaves 0 false rest t → Goal t
    by_result is t e (closed {rest = r} (body, h, same)) =
        let front : List ℕ = 40 ∷ (body ++ 41 ∷ []) in
        known Variation front r
        (ap (λ k. k ∷ rest) is ∙ ap (λ xs. 40 ∷ xs) (same ∙ sym (append_assoc body (41 ∷ []) r)))
        (fixed b Variation front r (λ f s k. ap (λ u. u.1) (variation_read b f s k)) (body, refl, h))
    by_result is t e (commented front r same h lack) =
        faulty (Unclosed_comment (suc (length r))) refl
        (inr (
          rest,
          ap (λ k. k ∷ rest) is,
          subst (λ xs. HasOpenComment xs (suc (length r))) (sym same) (open_comment h r lack),
        ))
    by_result is t e unclosed = faulty Unclosed_variation refl (
      (rest, ap (λ k. k ∷ rest) is),
      λ left h.
          let one : token_at b 40 rest ≡ (Unclosed_comment left, []) =
          ap (λ k. token_at b k rest) (sym is) ∙ comment_fault b (c ∷ rest) left h in
          let two : token_at b 40 rest ≡ (Unclosed_variation, []) = open_at b rest ∙ e in
          let both : Unclosed_comment left ≡ Unclosed_variation = ap (λ (t : Token × List ℕ). t.0) (sym one ∙ two) in
          absurd (cc),
    )

    by_tag : c ≡ 91 → (t : Token × List ℕ) → TagLeaves rest t → Goal t
    by_tag is t bad = faulty Bad_tag refl (rest, ap (λ k. k ∷ rest) is)
    by_tag is t (good name string closing u r h same) =
        known (Tag_pair name string closing) (91 ∷ u) r (ap (λ k. k ∷ rest) is ∙ ap (λ xs. 91 ∷ xs) same)
        (fixed b (Tag_pair name string closing) (91 ∷ u) r
        (λ f s k. ap (λ v. v.1) (tag_first b name string closing f s k)) h)

    by_word : is_word_byte c ≡ true
        → Goal (Word (take_while is_word_byte (c ∷ rest)), drop (prefix_len is_word_byte (c ∷ rest)) (c ∷ rest))
    by_word h =
        let front : List ℕ = take_while is_word_byte (c ∷ rest) in
        let r : List ℕ = drop (prefix_len is_word_byte (c ∷ rest)) (c ∷ rest) in
        let whole : front ++ r ≡ c ∷ rest = take-append-drop (prefix_len is_word_byte (c ∷ rest)) (c ∷ rest) in
        let next : 1 + prefix_len is_word_byte rest ≡ suc (prefix_len is_word_byte rest) = omega arith in
        let some : 0 < length (take_while is_word_byte (c ∷ rest)) = rw (h, next) (omega arith) in
        known Symbol front r (sym whole)
        (longest_run (IsOf b Symbol) is_word_byte front r
        (λ d ds k. last_one is_word_byte front d ds k.1)
        (run_stops is_word_byte (c ∷ rest)) (some, run_passes is_word_byte (c ∷ rest)))

    by_other : (t : Bool) → is_word_byte c ≡ t → skips_line b c ≡ false → eqb c 123 ≡ false → eqb c 40 ≡ false
        → eqb c 91 ≡ false
        → Goal (cond t (
          Word (take_while is_word_byte (c ∷ rest)),
          drop (prefix_len is_word_byte (c ∷ rest))
              (c ∷ rest),
        ) (Bad, []))
    by_other true h skip brace opens bracket = by_word h
    by_other false h skip brace opens bracket =
        let none : list_any (λ k. eqb c k) (123 ∷ 40 ∷ 91 ∷ []) ≡ false = rw (brace, opens, bracket) refl in
        faulty Bad refl (c, rest, refl, none)

    by_line : (t : Bool) → skips_line b c ≡ t → Goal (token_at b c rest)
    by_line true e = subst Goal (sym (line_at b c rest e)) (by_skip e)
    by_line false e =
        let no = or_parts (b && eqb c 37) (eqb c 59) e in
        rw no.0
        (pick Goal (is_white_space c || eqb c 46) _ _
        (λ h. known Blank (c ∷ []) rest refl
        (fixed b Blank (c ∷ []) rest (λ f s k. ap (λ t. t.1) (blank_read b f s k)) (c, refl, h))) (λ _.
        pick Goal (eqb c 123) _ _ (λ h. by_brace (eqb-true c 123 h) (after_brace rest) (brace_says rest)) (λ brace.
        pick Goal (eqb c 59) _ _ (λ h. absurd (cc (h, no.1))) (λ _.
        pick Goal (eqb c 36) _ _ (λ h. by_digits (eqb-true c 36 h)) (λ _.
        pick Goal (eqb c 40) _ _
        (λ h. by_result (eqb-true c 40 h) (variation_at None false 1 rest) refl
        (leaves (length rest) false 0 rest (omega arith)))
        (λ opens.
        pick Goal (eqb c 91) _ _
        (λ h. subst Goal (sym (parts_are rest)) (by_tag (eqb-true c 91 h) (tag_by_parts rest) (tag_leaves rest)))
        (λ bracket.
        pick Goal (eqb c 42) _ _
        (λ h. known Asterisk (c ∷ []) rest refl
        (fixed b Asterisk (c ∷ []) rest (λ f s k. ap (λ t. t.1) (asterisk_read b f s k))
        (ap (λ k. k ∷ []) (eqb-true c 42 h)))) (λ _.
        by_other (is_word_byte c) refl e brace opens bracket))))))))
