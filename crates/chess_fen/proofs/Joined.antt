-- Texts that were joined by a byte are given back when the result is cut at that byte, if none of them has it
-- (slice_split-join); so are fields that were joined by spaces (fields_of-join). By induction over the texts, whose
-- bytes are all above that byte (`Plain`); plain texts joined by a plain byte are plain (Plain-join).
use Rattle.std.proofs.Common.{◌≡◌, ◌≢◌, ℕ, suc, ◌<◌, ◌≤◌, true, false, eqb, ltb, List, [], ◌∷◌, ◌++◌, length, refl, ap, ◌∙◌, arith}
use Rattle.std.specs.List.{slice_split, join_with_byte, AllByRecursion, filter}
use Rattle.std.proofs.lemmas.Bool.Decides.{nat_tests}
use Rattle.chess_fen.specs.Texts.{fields_of}

-- the byte is ASCII from k on, other than the quote and the backslash
abbrev pub IsPlain : ℕ → ℕ → Type 0
IsPlain k b = (k ≤ b) × (b < 128) × (b ≢ 34) × (b ≢ 92)

-- each byte of the text is plain from k on
abbrev pub Plain : ℕ → List ℕ → Type 0
Plain k text = AllByRecursion (IsPlain k) text

-- what holds of all elements of two lists holds of all elements of the lists joined
pub all_append : (P : ℕ → Type 0) (xs ys : List ℕ) → AllByRecursion P xs → AllByRecursion P ys → AllByRecursion P (xs ++ ys)
all_append P [] ys p q = q
all_append P (x ∷ xs) ys p q = (p.0, all_append P xs ys p.1 q)

-- what is plain from k on is plain from a smaller j on
pub Plain-weaker : (j k : ℕ) (xs : List ℕ) → j ≤ k → Plain k xs → Plain j xs
Plain-weaker j k [] h p = tt
Plain-weaker j k (x ∷ xs) h p =
    let at : k ≤ x = p.0.0 in
    ((omega arith, p.0.1, p.0.2, p.0.3), Plain-weaker j k xs h p.1)

-- the same for each of several texts
pub each_weaker : (j k : ℕ) (texts : List (List ℕ)) → j ≤ k → AllByRecursion (Plain k) texts
    → AllByRecursion (Plain j) texts
each_weaker j k [] h p = tt
each_weaker j k (x ∷ xs) h p = (Plain-weaker j k x h p.0, each_weaker j k xs h p.1)

-- plain texts joined by a plain byte are plain
pub Plain-join : (c k : ℕ) (texts : List (List ℕ)) → IsPlain k c → AllByRecursion (Plain k) texts
    → Plain k (join_with_byte c texts)
Plain-join c k [] h p = tt
Plain-join c k (x ∷ []) h p = p.0
Plain-join c k (x ∷ y ∷ texts) h p = all_append (IsPlain k) x (c ∷ join_with_byte c (y ∷ texts)) p.0
    (h, Plain-join c k (y ∷ texts) h p.1)

-- a text whose bytes are all above c isn't cut at c
split_whole : (c : ℕ) (text : List ℕ) → Plain (suc c) text → slice_split (λ b. eqb b c) text ≡ text ∷ []
split_whole c [] p = refl
split_whole c (x ∷ xs) p =
    let at : c < x = p.0.0 in
    let other : eqb x c ≡ false = grind (arith, nat_tests) in
    rw (other, split_whole c xs p.1) refl

-- a text whose bytes are all above c, with c and more after it, is cut first at that c
split_first : (c : ℕ) (text rest : List ℕ) → Plain (suc c) text → slice_split (λ b. eqb b c) (text ++ c ∷ rest)
    ≡ text ∷ slice_split (λ b. eqb b c) rest
split_first c [] rest p = let same : eqb c c ≡ true = grind (arith, nat_tests) in rw same refl
split_first c (x ∷ xs) rest p =
    let at : c < x = p.0.0 in
    let other : eqb x c ≡ false = grind (arith, nat_tests) in
    rw (other, split_first c xs rest p.1) refl

-- texts that are joined by c, with all their bytes above c, are the parts of the result when it is cut at c
pub slice_split-join : (c : ℕ) (x : List ℕ) (texts : List (List ℕ)) → AllByRecursion (Plain (suc c)) (x ∷ texts)
    → slice_split (λ b. eqb b c) (join_with_byte c (x ∷ texts)) ≡ x ∷ texts
slice_split-join c x [] p = split_whole c x p.0
slice_split-join c x (y ∷ texts) p = split_first c x (join_with_byte c (y ∷ texts)) p.0
    ∙ ap (λ parts. x ∷ parts) (slice_split-join c y texts p.1)

-- texts that aren't empty are all kept
keep_all : (texts : List (List ℕ)) → AllByRecursion (λ text. 0 < length text) texts
    → filter (λ text. ltb 0 (length text)) texts ≡ texts
keep_all [] p = refl
keep_all (x ∷ xs) p =
    let at : 0 < length x = p.0 in
    let yes : ltb 0 (length x) ≡ true = grind (arith, nat_tests) in
    rw (yes, keep_all xs p.1) refl

-- fields that are joined by spaces are those fields
pub fields_of-join : (x : List ℕ) (texts : List (List ℕ)) → AllByRecursion (Plain 33) (x ∷ texts)
    → AllByRecursion (λ text. 0 < length text) (x ∷ texts) → fields_of (join_with_byte 32 (x ∷ texts)) ≡ x ∷ texts
fields_of-join x texts p q = ap (filter (λ text. ltb 0 (length text))) (slice_split-join 32 x texts p)
    ∙ keep_all (x ∷ texts) q
