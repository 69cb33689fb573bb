-- Gaps, strings and tags: what the relations of specs/Split call one is read as that one (gap_read, string_read,
-- tag_read, by induction on the relation), and what the reader finds is one by the relation (gap_goes, string_leaves,
-- tag_leaves, by induction on the text). A tag is put together from the lemmas on its parts.
use Rattle.std.proofs.Common.{◌≡◌, ℕ, zero, suc, ◌+◌, ◌<◌, ◌≤◌, Bool, true, false, cond, eqb, List, [], ◌∷◌, ◌++◌, length, drop, Option, Some, None, IfSome, refl, sym, ap, subst, ◌∙◌, inl, inr, ◌⊎◌, arith, ◌&&◌, take-append-drop, append_assoc, length-append}
use Rattle.std.specs.List.{list_all, list_any, prefix_len, take_while}
use Rattle.std.proofs.lemmas.Bool.{and_parts, or_parts, or_cases, eqb-true}
use Rattle.pgn_tokens.specs.Tokens.{Token, Tag, Bad_tag, is_white_space, line_end, after_gap, string_at, onto, after_next}
use Rattle.byte_devices.specs.Bytes.{is_name_byte, after_byte}
use Rattle.pgn_tokens.specs.{shared.Gaps.gap_left, shared.Kinds.IsTag}
use Rattle.pgn_tokens.specs.shared.TagParts.{closed, with_text, with_string, with_tag_name, tag_by_parts}
use Rattle.pgn_tokens.proofs.{Skipped.gap_line, Strings.string_after, Strings.string_quote, Strings.string_other, Gaps.gap_same, VariationInsides.line_end_is}
use Rattle.pgn_tokens.specs.Split.{IsGap, nothing, blank, line, OpensTag, opens, IsString, kept, char}
use Rattle.pgn_tokens.proofs.ByteRuns.{differs, pick, run_drop, run_take, run_passes, LineSays, unended, line_then, line_says}

-- ---- gaps

-- a byte other than white space and `%` ends a gap
gap_ends : (b : Bool) (c : ℕ) (rest : List ℕ) → is_white_space c ≡ false → eqb c 37 ≡ false
    → gap_left false b (c ∷ rest) ≡ c ∷ rest
gap_ends true c rest e k = rw (k, e) refl
gap_ends false c rest e k = rw e refl

-- a byte of white space is skipped
gap_goes_on : (b : Bool) (c : ℕ) (rest : List ℕ) → is_white_space c ≡ true
    → gap_left false b (c ∷ rest) ≡ gap_left false (eqb c 10) rest
gap_goes_on true c rest e = let k : eqb c 37 ≡ false = differs is_white_space c 37 e refl in rw (k, e) refl
gap_goes_on false c rest e = rw e refl

-- a gap before such a byte is skipped whole
pub gap_read : {b : Bool} {gap : List ℕ} → IsGap b gap → (c : ℕ) (rest : List ℕ) → is_white_space c ≡ false
    → eqb c 37 ≡ false → gap_left false b (gap ++ c ∷ rest) ≡ c ∷ rest
gap_read {b} nothing c rest e k = gap_ends b c rest e k
gap_read (blank {b} {c = d} {more} h r) c rest e k =
    gap_goes_on b d (more ++ c ∷ rest) h ∙ gap_read r c rest e k
gap_read (line text {more} lack r) c rest e k =
    ap (λ xs. gap_left true false xs) (append_assoc text (10 ∷ more) (c ∷ rest))
    ∙ gap_line false (text ++ 10 ∷ (more ++ c ∷ rest))
    ∙ ap (gap_left false false) (line_end_is text (more ++ c ∷ rest) lack)
    ∙ gap_read r c rest e k

-- `text` is a gap and then `rest`, unless nothing is left
abbrev pub GapLeaves : Bool → List ℕ → List ℕ → Type 0
GapLeaves b text rest = (rest ≡ []) ⊎ ((gap : List ℕ) × IsGap b gap × (text ≡ gap ++ rest))

-- a part of a gap in front of one
gap_more : (b after : Bool) (part text rest : List ℕ) → ((m : List ℕ) → IsGap after m → IsGap b (part ++ m))
    → GapLeaves after text rest → GapLeaves b (part ++ text) rest
gap_more b after part text rest add (inl e) = inl e
gap_more b after part text rest add (inr h) =
    inr (part ++ h.0, add h.0 h.1, ap (λ xs. part ++ xs) h.2 ∙ sym (append_assoc part h.0 rest))

-- what `gap_left` leaves comes after a gap; by induction on the text's length, up to n
gap_leaves : (n : ℕ) (b : Bool) (text : List ℕ) → length text ≤ n → GapLeaves b text (gap_left false b text)
gap_leaves n b [] few = inl refl
gap_leaves zero b (c ∷ rest) few = absurd (omega (arith, few))
gap_leaves (suc n) b (c ∷ rest) few =
    by_line (λ f u fewer. gap_leaves n f u fewer) (b && eqb c 37) refl
  where
    Again : Type 0
    Again = (f : Bool) (u : List ℕ) → length u ≤ n → GapLeaves f u (gap_left false f u)

    Goal : List ℕ → Type 0
    Goal = GapLeaves b (c ∷ rest)

    after_line : Again → b ≡ true → c ≡ 37 → (end : List ℕ) → LineSays rest end → Goal (gap_left false false end)
    after_line again begins is end unended = inl refl
    after_line again begins is end (line_then body tail lack whole) =
        let fewer : length tail ≤ n = omega (arith, few, simp length-append at (ap length whole)) in
        subst (λ xs. GapLeaves b xs (gap_left false true tail))
        (ap (λ j. j ∷ ((body ++ 10 ∷ []) ++ tail)) (sym is)
        ∙ ap (λ xs. c ∷ xs) (append_assoc body (10 ∷ []) tail ∙ sym whole))
        (gap_more b true (37 ∷ (body ++ 10 ∷ [])) tail _
        (λ m i. subst (λ f. IsGap f ((37 ∷ (body ++ 10 ∷ [])) ++ m)) (sym begins)
        (subst (IsGap true) (ap (λ xs. 37 ∷ xs) (sym (append_assoc body (10 ∷ []) m))) (line body lack i)))
        (again true tail fewer))

    by_blank : Again → (t : Bool) → is_white_space c ≡ t → (b && eqb c 37) ≡ false → Goal (gap_left false b (c ∷ rest))
    by_blank again true e k =
        subst Goal (sym (gap_goes_on b c rest e))
        (gap_more b (eqb c 10) (c ∷ []) rest _ (λ m i. blank e i) (again (eqb c 10) rest (omega (arith, few))))
    by_blank again false e k = subst Goal (sym (rw (k, e) refl)) (inr ([], nothing, refl))

    by_line : Again → (t : Bool) → (b && eqb c 37) ≡ t → Goal (gap_left false b (c ∷ rest))
    by_line again true e =
        let both = and_parts b (eqb c 37) e in
        let same : gap_left false b (c ∷ rest) ≡ gap_left true false rest = rw e refl in
        subst Goal (sym (same ∙ gap_line false rest))
        (after_line again both.0 (eqb-true c 37 both.1) (line_end rest) (line_says rest))
    by_line again false e = by_blank again (is_white_space c) refl e

pub gap_goes : (text : List ℕ) → GapLeaves false text (after_gap text)
gap_goes text = subst (GapLeaves false text) (gap_same text) (gap_leaves (length text) false text (omega arith))

-- ---- strings

-- a string before a quote (byte 34) is read, and what follows the quote is left
pub string_read : {s : List ℕ} → IsString s → (rest : List ℕ) → string_at (s ++ 34 ∷ rest) ≡ Some (s, rest)
string_read nothing rest = string_quote 34 rest refl
string_read (kept {c} {more} line_ends r) rest =
    string_other 92 (c ∷ (more ++ 34 ∷ rest)) refl refl
    ∙ ap (λ t. onto (92 ∷ []) (cond t None (onto (c ∷ []) (string_at (more ++ 34 ∷ rest))))) line_ends
    ∙ ap (λ o. onto (92 ∷ []) (onto (c ∷ []) o)) (string_read r rest)
string_read (char {c} {more} none r) rest =
    let first = or_parts (eqb c 92) _ none in
    let second = or_parts (eqb c 34) _ first.1 in
    let third = or_parts (eqb c 10) _ second.1 in
    string_other c (more ++ 34 ∷ rest) third.0 second.0
    ∙ ap (λ t. onto (c ∷ []) (string_after t (more ++ 34 ∷ rest))) first.0
    ∙ ap (onto (c ∷ [])) (string_read r rest)

-- what `string_at` finds is a string, with a quote after it
abbrev pub StringLeaves : List ℕ → Option (List ℕ × List ℕ) → Type 0
StringLeaves text o = IfSome o (λ (f : List ℕ × List ℕ). IsString f.0 × (text ≡ f.0 ++ 34 ∷ f.1))

pub string_leaves : (text : List ℕ) → StringLeaves text (string_at text)
string_leaves [] = tt
string_leaves (c ∷ []) = pick (StringLeaves (c ∷ [])) (eqb c 34) _ _
    (λ e. (nothing, ap (λ k. k ∷ []) (eqb-true c 34 e))) (λ _. tt)
string_leaves (c ∷ d ∷ rest) =
    pick (StringLeaves (c ∷ d ∷ rest)) (eqb c 34) _ _
    (λ e. (nothing, ap (λ k. k ∷ d ∷ rest) (eqb-true c 34 e))) (λ quote.
    pick (StringLeaves (c ∷ d ∷ rest)) (eqb c 10) _ _ (λ _. tt) (λ ends.
    pick (StringLeaves (c ∷ d ∷ rest)) (eqb c 92) _ _
    (λ slash. pick (StringLeaves (c ∷ d ∷ rest)) (eqb d 10) _ _ (λ _. tt)
    (λ line_ends. both slash line_ends (string_at rest) (string_leaves rest))) (λ slash.
    one quote ends slash (string_at (d ∷ rest)) (string_leaves (d ∷ rest)))))
  where
    both : eqb c 92 ≡ true → eqb d 10 ≡ false → (o : Option (List ℕ × List ℕ)) → StringLeaves rest o
        → StringLeaves (c ∷ d ∷ rest) (onto (c ∷ d ∷ []) o)
    both slash line_ends None h = tt
    both slash line_ends (Some f) h = (
      subst (λ k. IsString (k ∷ d ∷ f.0)) (sym (eqb-true c 92 slash)) (kept line_ends h.0),
      ap (λ xs. c ∷ d ∷ xs) h.1,
    )

    one : eqb c 34 ≡ false → eqb c 10 ≡ false → eqb c 92 ≡ false → (o : Option (List ℕ × List ℕ))
        → StringLeaves (d ∷ rest) o → StringLeaves (c ∷ d ∷ rest) (onto (c ∷ []) o)
    one quote ends slash None h = tt
    one quote ends slash (Some f) h =
        let none : list_any (λ k. eqb c k) (92 ∷ 34 ∷ 10 ∷ []) ≡ false = rw (slash, quote, ends) refl in
        (char none h.0, ap (λ xs. c ∷ xs) h.1)

-- ---- tags, from the relation to the reader

blank_no_name : (c : ℕ) → is_white_space c ≡ true → is_name_byte c ≡ false
blank_no_name c e = elim (or_cases (eqb c 32) _ e) [
  | inl h ↦ ap is_name_byte (eqb-true c 32 h)
  | inr h ↦ (elim (or_cases (eqb c 9) _ h) [
    | inl k ↦ ap is_name_byte (eqb-true c 9 k)
    | inr k ↦ (elim (or_cases (eqb c 10) _ k) [
      | inl j ↦ ap is_name_byte (eqb-true c 10 j)
      | inr j ↦ ap is_name_byte (eqb-true c 13 j)
    ])
  ])
]

name_no_blank : (c : ℕ) → is_name_byte c ≡ true → is_white_space c ≡ false
name_no_blank c e =
    let a : eqb c 32 ≡ false = differs is_name_byte c 32 e refl in
    let b : eqb c 9 ≡ false = differs is_name_byte c 9 e refl in
    let d : eqb c 10 ≡ false = differs is_name_byte c 10 e refl in
    let f : eqb c 13 ≡ false = differs is_name_byte c 13 e refl in
    rw (a, b, d, f) refl

-- a name ends before a gap and a quote
pub name_stops : {b : Bool} {gap : List ℕ} → IsGap b gap → (rest : List ℕ)
    → prefix_len is_name_byte (gap ++ 34 ∷ rest) ≡ 0
name_stops nothing rest = refl
name_stops (blank {c} {more} h r) rest = rw (blank_no_name c h) refl
name_stops (line text lack r) rest = refl

-- after a gap, a byte that is no white space and no `%` is found
pub next_read : {gap : List ℕ} → IsGap false gap → (c : ℕ) (rest : List ℕ) → is_white_space c ≡ false
    → eqb c 37 ≡ false → eqb c c ≡ true → after_next c (gap ++ c ∷ rest) ≡ Some rest
next_read {gap} h c rest e k same =
    ap (after_byte c) (sym (gap_same (gap ++ c ∷ rest)) ∙ gap_read h c rest e k) ∙ rw same refl

-- from the end of its name on, a tag is read with its parts
named_read : (name middle string last_gap r : List ℕ) → 0 < length name → IsGap false middle → IsString string
    → IsGap false last_gap → with_tag_name name (middle ++ 34 ∷ (string ++ 34 ∷ (last_gap ++ 93 ∷ r)))
    ≡ (Tag name string (length (string ++ 34 ∷ (last_gap ++ 93 ∷ r))), r)
named_read [] middle string last_gap r some h s k = absurd (omega (arith, some))
named_read (n ∷ ns) middle string last_gap r some h s k =
    let inside : List ℕ = string ++ 34 ∷ (last_gap ++ 93 ∷ r) in
    ap (with_string (n ∷ ns)) (next_read h 34 inside refl refl refl)
    ∙ ap (with_text (n ∷ ns) (length inside)) (string_read s (last_gap ++ 93 ∷ r))
    ∙ ap (closed (n ∷ ns) (length inside) string) (next_read k 93 r refl refl refl)

-- after a gap comes the name
pub from_gap : (gap name tail : List ℕ) → IsGap false gap → 0 < length name → list_all is_name_byte name ≡ true
    → after_gap (gap ++ (name ++ tail)) ≡ name ++ tail
from_gap gap [] tail h some named = absurd (omega (arith, some))
from_gap gap (n ∷ ns) tail h some named =
    let first = (and_parts (is_name_byte n) (list_all is_name_byte ns) named).0 in
    sym (gap_same (gap ++ (n ∷ (ns ++ tail)))) ∙ gap_read h n (ns ++ tail) (name_no_blank n first) (differs is_name_byte n 37 first refl)

-- a name that a byte of no name follows is the one that is split off
by_inner : (inner name tail : List ℕ) → inner ≡ name ++ tail → list_all is_name_byte name ≡ true
    → prefix_len is_name_byte tail ≡ 0
    → with_tag_name (take_while is_name_byte inner) (drop (prefix_len is_name_byte inner) inner)
    ≡ with_tag_name name tail
by_inner inner name tail is named stop =
    ap (λ xs. with_tag_name (take_while is_name_byte xs) (drop (prefix_len is_name_byte xs) xs)) is
    ∙ ap (λ xs. with_tag_name xs (drop (prefix_len is_name_byte (name ++ tail)) (name ++ tail)))
    (run_take is_name_byte name tail named stop)
    ∙ ap (with_tag_name name) (run_drop is_name_byte name tail named stop)

-- a tag whose parts are as the relations say is read with these parts, from after its `[` on
pub parts_read : (gap name middle string last_gap r : List ℕ) → IsGap false gap → 0 < length name
    → list_all is_name_byte name ≡ true → IsGap false middle → IsString string → IsGap false last_gap
    → tag_by_parts (gap ++ (name ++ (middle ++ 34 ∷ (string ++ 34 ∷ (last_gap ++ 93 ∷ r)))))
    ≡ (Tag name string (length (string ++ 34 ∷ (last_gap ++ 93 ∷ r))), r)
parts_read gap name middle string last_gap r h some named h_after s k =
    let tail : List ℕ = middle ++ 34 ∷ (string ++ 34 ∷ (last_gap ++ 93 ∷ r)) in
    by_inner (after_gap (gap ++ (name ++ tail))) name tail (from_gap gap name tail h some named) named
    (name_stops h_after (string ++ 34 ∷ (last_gap ++ 93 ∷ r)))
    ∙ named_read name middle string last_gap r some h_after s k

-- the same text, with the tag's parts grouped from the left and from the right
regroup : (gap name middle string last_gap r : List ℕ)
    → (gap ++ (name ++ (middle ++ 34 ∷ (string ++ 34 ∷ (last_gap ++ 93 ∷ []))))) ++ r
    ≡ gap ++ (name ++ (middle ++ 34 ∷ (string ++ 34 ∷ (last_gap ++ 93 ∷ r))))
regroup gap name middle string last_gap r = simp append_assoc

-- a tag's opening, string and closing, as one text
tag_text : (before name after string gap : List ℕ)
    → (before ++ (name ++ (after ++ 34 ∷ []))) ++ (string ++ 34 ∷ (gap ++ 93 ∷ []))
    ≡ before ++ (name ++ (after ++ 34 ∷ (string ++ 34 ∷ (gap ++ 93 ∷ []))))
tag_text before name after string gap = simp append_assoc

-- how many bytes are left at the string, if `r` comes after the tag
left_at_string : (string gap r : List ℕ)
    → length (string ++ 34 ∷ (gap ++ 93 ∷ r)) ≡ length (string ++ 34 ∷ (gap ++ 93 ∷ [])) + length r
left_at_string string gap r = simp length-append (omega arith)

-- the parts of a tag's opening
pub record OpeningParts (name text : List ℕ) : Type 0 where
  pub before : List ℕ
  pub after : List ℕ
  pub is : text ≡ 91 ∷ (before ++ (name ++ (after ++ 34 ∷ [])))
  pub before_is_gap : IsGap false before
  pub after_is_gap : IsGap false after
  pub some : 0 < length name
  pub named : list_all is_name_byte name ≡ true

-- an opening has these parts
pub opening_parts : {name text : List ℕ} → OpensTag name text → OpeningParts name text
opening_parts (opens {before} {after} gap some named then_gap) = record {
  before = before;
  after = after;
  is = refl;
  before_is_gap = gap;
  after_is_gap = then_gap;
  some = some;
  named = named;
}

-- a tag begins with a bracket
pub tag_begins : (name string closing text : List ℕ) → IsTag name string closing text
    → (u : List ℕ) × (text ≡ 91 ∷ u)
tag_begins name string closing text (opening, front, s, close, is) =
    let o = opening_parts front in (
      (o.before ++ (name ++ (o.after ++ 34 ∷ []))) ++ (string ++ closing),
      is ∙ ap (λ xs. xs ++ (string ++ closing)) o.is,
    )

-- a text that is a tag by the relation is read as that tag. `u` is the text after its `[`, and `r` comes after the tag
pub tag_read : (name string closing text u r : List ℕ) → IsTag name string closing text → text ≡ 91 ∷ u
    → tag_by_parts (u ++ r) ≡ (Tag name string (length (string ++ closing) + length r), r)
tag_read name string closing text u r (opening, front, s, close, is) head =
    let o = opening_parts front in
    let v : List ℕ = o.before ++ (name ++ (o.after ++ 34 ∷ (string ++ 34 ∷ (close.0 ++ 93 ∷ [])))) in
    let whole : text ≡ 91 ∷ v =
    is ∙ ap (λ xs. xs ++ (string ++ closing)) o.is
    ∙ ap (λ xs. (91 ∷ (o.before ++ (name ++ (o.after ++ 34 ∷ [])))) ++ (string ++ xs)) close.2
    ∙ ap (λ xs. 91 ∷ xs) (tag_text o.before name o.after string close.0) in
    let same : u ≡ v = cc (whole, head) in
    ap (λ xs. tag_by_parts (xs ++ r)) same
    ∙ ap tag_by_parts (regroup o.before name o.after string close.0 r)
    ∙ parts_read o.before name o.after string close.0 r o.before_is_gap o.some o.named o.after_is_gap s close.1
    ∙ ap (λ n. (Tag name string n, r))
    (left_at_string string close.0 r ∙ ap (λ xs. length (string ++ xs) + length r) (sym close.2))

-- ---- tags, from the reader to the relation

-- what is read of a text after a `[` (91): a bad tag, of which nothing is said here, or a tag by the relation and then
-- the rest `r`
pub data TagLeaves (text : List ℕ) : Token × List ℕ → Type 0 where
  bad : TagLeaves text (Bad_tag, [])
  good : (name string closing u r : List ℕ) → IsTag name string closing (91 ∷ u) → text ≡ u ++ r
      → TagLeaves text (Tag name string (length (string ++ closing) + length r), r)

-- what is read as a tag is one by the relation
pub tag_leaves : (text : List ℕ) → TagLeaves text (tag_by_parts text)
tag_leaves text = by_gap (after_gap text) (gap_goes text)
  where
    by_close : (gap name middle string rest : List ℕ) → IsGap false gap → 0 < length name
        → list_all is_name_byte name ≡ true → IsGap false middle → IsString string
        → text ≡ gap ++ (name ++ (middle ++ 34 ∷ (string ++ 34 ∷ rest)))
        → (after : List ℕ) → GapLeaves false rest after
        → TagLeaves text (closed name (length (string ++ 34 ∷ rest)) string (after_byte 93 after))
    by_close gap name middle string rest h some named h_after s is [] k = bad
    by_close gap name middle string rest h some named h_after s is (c ∷ r) (inl none) = absurd (cc)
    by_close gap name middle string rest h some named h_after s is (c ∷ r) (inr k) = by_test (eqb c 93) refl
      where
        by_test : (t : Bool) → eqb c 93 ≡ t
            → TagLeaves text (closed name (length (string ++ 34 ∷ rest)) string (cond t (Some r) None))
        by_test false e = bad
        by_test true e =
            let after_string : List ℕ = k.0 in
            let closing : List ℕ = 34 ∷ (after_string ++ 93 ∷ []) in
            let v : List ℕ = gap ++ (name ++ (middle ++ 34 ∷ (string ++ closing))) in
            let tail : rest ≡ after_string ++ 93 ∷ r = k.2 ∙ ap (λ j. after_string ++ j ∷ r) (eqb-true c 93 e) in
            let whole : text ≡ v ++ r =
            is ∙ ap (λ xs. gap ++ (name ++ (middle ++ 34 ∷ (string ++ 34 ∷ xs)))) tail
            ∙ sym (regroup gap name middle string after_string r) in
            let left : length (string ++ 34 ∷ rest) ≡ length (string ++ closing) + length r =
            ap (λ xs. length (string ++ 34 ∷ xs)) tail ∙ left_at_string string after_string r in
            subst (λ n. TagLeaves text (Tag name string n, r)) (sym left)
            (good name string closing v r (
              91 ∷ (gap ++ (name ++ (middle ++ 34 ∷ []))),
              opens {before = gap} {after = middle} h some named h_after,
              s,
              (after_string, k.1, refl),
              ap (λ xs. 91 ∷ xs) (sym (tag_text gap name middle string after_string)),
            ) whole)

    by_string : (gap name middle inside : List ℕ) → IsGap false gap → 0 < length name
        → list_all is_name_byte name ≡ true → IsGap false middle
        → text ≡ gap ++ (name ++ (middle ++ 34 ∷ inside))
        → (o : Option (List ℕ × List ℕ)) → StringLeaves inside o → TagLeaves text (with_text name (length inside) o)
    by_string gap name middle inside h some named h_after is None k = bad
    by_string gap name middle inside h some named h_after is (Some f) k =
        subst (λ n. TagLeaves text (closed name n f.0 (after_next 93 f.1))) (ap length (sym k.1))
        (by_close gap name middle f.0 f.1 h some named h_after k.0
        (is ∙ ap (λ xs. gap ++ (name ++ (middle ++ 34 ∷ xs))) k.1)
        (after_gap f.1) (gap_goes f.1))

    by_quote : (gap name rest : List ℕ) → IsGap false gap → 0 < length name → list_all is_name_byte name ≡ true
        → text ≡ gap ++ (name ++ rest) → (after : List ℕ) → GapLeaves false rest after
        → TagLeaves text (with_string name (after_byte 34 after))
    by_quote gap name rest h some named is [] k = bad
    by_quote gap name rest h some named is (c ∷ inside) (inl none) = absurd (cc)
    by_quote gap name rest h some named is (c ∷ inside) (inr k) = by_test (eqb c 34) refl
      where
        by_test : (t : Bool) → eqb c 34 ≡ t → TagLeaves text (with_string name (cond t (Some inside) None))
        by_test false e = bad
        by_test true e =
            by_string gap name k.0 inside h some named k.1
            (is ∙ ap (λ xs. gap ++ (name ++ xs)) (k.2 ∙ ap (λ j. k.0 ++ j ∷ inside) (eqb-true c 34 e)))
            (string_at inside) (string_leaves inside)

    by_name : (gap name rest : List ℕ) → IsGap false gap → list_all is_name_byte name ≡ true
        → text ≡ gap ++ (name ++ rest) → TagLeaves text (with_tag_name name rest)
    by_name gap [] rest h named is = bad
    by_name gap (n ∷ ns) rest h named is =
        by_quote gap (n ∷ ns) rest h (omega arith) named is (after_gap rest) (gap_goes rest)

    by_gap : (inner : List ℕ) → GapLeaves false text inner
        → TagLeaves text (with_tag_name (take_while is_name_byte inner) (drop (prefix_len is_name_byte inner) inner))
    by_gap inner (inl none) = subst (λ xs. TagLeaves text
        (with_tag_name (take_while is_name_byte xs) (drop (prefix_len is_name_byte xs) xs))) (sym none) bad
    by_gap inner (inr h) =
        by_name h.0 (take_while is_name_byte inner) (drop (prefix_len is_name_byte inner) inner) h.1
        (run_passes is_name_byte inner)
        (h.2 ∙ ap (λ xs. h.0 ++ xs) (sym (take-append-drop (prefix_len is_name_byte inner) inner)))
