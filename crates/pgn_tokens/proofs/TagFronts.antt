-- How a tag begins: `[`, a gap, the name, a gap and a quote (an opening). What the relation `OpensTag` says of a text
-- is what the reader finds (opening_read), and what the reader finds is such an opening (opening_is). Part by part: the
-- gaps, the name, the quote.
use Rattle.std.proofs.Common.{◌≡◌, ℕ, suc, ◌+◌, ◌<◌, Bool, true, false, cond, eqb, List, [], ◌∷◌, ◌++◌, length, take, drop, Option, Some, None, refl, sym, ap, subst, ◌∙◌, inl, inr, append_assoc, length-append, arith, is_some, unwrap_or, eqb-true, length-take-le, take-append-drop}
use Rattle.std.specs.List.{list_all, prefix_len, take_while}
use Rattle.std.proofs.{Math.Seq.drop-append_seam, lemmas.Bool.Decides.nat_tests, lemmas.List.Sums.prefix_len-le-length}
use Rattle.byte_devices.specs.Bytes.{is_name_byte, after_byte}
use Rattle.pgn_tokens.specs.Tokens.{after_gap, after_next, name_at}
use Rattle.pgn_tokens.specs.Split.{IsGap, OpensTag, opens}
use Rattle.pgn_tokens.proofs.ByteRuns.{run_passes, run_take}
use Rattle.pgn_tokens.proofs.TagSplits.{opening_parts, GapLeaves, from_gap, gap_goes, name_stops, next_read}

-- ---- from the relations to the reader

-- the name and the text after it; `None` for an empty name
abbrev name_or_none : List ℕ → List ℕ → Option (List ℕ × List ℕ)
name_or_none text name = cond (eqb (length name) 0) None (Some (name, drop (length name) text))

is_name : (text : List ℕ) (n : ℕ) (ns : List ℕ)
    → name_or_none text (n ∷ ns) ≡ Some (n ∷ ns, drop (length (n ∷ ns)) text)
is_name text n ns =
    let some : eqb (length (n ∷ ns)) 0 ≡ false = grind (arith, nat_tests) in
    ap (λ b. cond b None (Some (n ∷ ns, drop (length (n ∷ ns)) text))) some

-- a name that a byte of no name follows is read as that name
name_read : (name tail : List ℕ) → 0 < length name → list_all is_name_byte name ≡ true
    → prefix_len is_name_byte tail ≡ 0 → name_at (name ++ tail) ≡ Some (name, tail)
name_read [] tail some named stop = absurd (omega (arith, some))
name_read (n ∷ ns) tail some named stop =
    ap (name_or_none ((n ∷ ns) ++ tail)) (run_take is_name_byte (n ∷ ns) tail named stop)
    ∙ is_name ((n ∷ ns) ++ tail) n ns
    ∙ ap (λ xs. Some (n ∷ ns, xs)) (drop-append_seam (n ∷ ns) tail)

-- a gap and a name's first byte: a name is read
pub name_comes : (gap : List ℕ) (c : ℕ) (rest : List ℕ) → IsGap false gap → is_name_byte c ≡ true
    → is_some (name_at (after_gap (gap ++ c ∷ rest))) ≡ true
name_comes gap c rest h named =
    let next : 1 + prefix_len is_name_byte rest ≡ suc (prefix_len is_name_byte rest) = omega arith in
    ap (λ xs. is_some (name_at xs)) (from_gap gap (c ∷ []) rest h (omega arith) (rw named refl))
    ∙ ap (λ b. is_some (name_or_none (c ∷ rest) (take (cond b (1 + prefix_len is_name_byte rest) 0) (c ∷ rest)))) named
    ∙ ap (λ n. is_some (name_or_none (c ∷ rest) (take n (c ∷ rest)))) next
    ∙ ap is_some (is_name (c ∷ rest) c (take (prefix_len is_name_byte rest) rest))

-- `text` is an opening with this name and then `rest`: the reader finds the name and the quote, and leaves `rest`
pub record OpeningRead (name text rest : List ℕ) : Type 0 where
  pub inside : List ℕ
  pub is : text ≡ 91 ∷ inside
  pub after_name : List ℕ
  pub named : name_at (after_gap inside) ≡ Some (name, after_name)
  pub quoted : after_next 34 after_name ≡ Some rest

pub opening_read : {name opening : List ℕ} → OpensTag name opening → (rest : List ℕ)
    → OpeningRead name (opening ++ rest) rest
opening_read {name} front rest =
    let o = opening_parts front in
    let tail : List ℕ = o.after ++ 34 ∷ rest in record {
      inside = o.before ++ (name ++ tail);
      is = ap (λ xs. xs ++ rest) o.is ∙ whole o.before name o.after;
      after_name = tail;
      named = ap name_at (from_gap o.before name tail o.before_is_gap o.some o.named)
          ∙ name_read name tail o.some o.named (name_stops o.after_is_gap rest);
      quoted = next_read o.after_is_gap 34 rest refl refl refl;
    }
  where
    whole : (before name after : List ℕ) → (91 ∷ (before ++ (name ++ (after ++ 34 ∷ [])))) ++ rest
        ≡ 91 ∷ (before ++ (name ++ (after ++ 34 ∷ rest)))
    whole before name after = simp append_assoc

-- ---- from the reader to the relations

-- a byte that was read is the text's first
byte_is : (b : ℕ) (text rest : List ℕ) → after_byte b text ≡ Some rest → text ≡ b ∷ rest
byte_is b [] rest h = let clash : None ≡ Some rest = h in absurd (cc)
byte_is b (c ∷ more) rest h = by_test (eqb c b) refl h
  where
    by_test : (t : Bool) → eqb c b ≡ t → cond t (Some more) None ≡ Some rest → c ∷ more ≡ b ∷ rest
    by_test true e k =
        let found : Some more ≡ Some rest = k in
        let same : more ≡ rest = cc (found) in
        ap (λ d. d ∷ more) (eqb-true c b e) ∙ ap (λ xs. b ∷ xs) same
    by_test false e k = let clash : None ≡ Some rest = k in absurd (cc)

-- a name that was read
pub record NameIs (text : List ℕ) (found : List ℕ × List ℕ) : Type 0 where
  pub some : 0 < length found.0
  pub named : list_all is_name_byte found.0 ≡ true
  pub is : text ≡ found.0 ++ found.1

pub name_is : (text : List ℕ) (found : List ℕ × List ℕ) → name_at text ≡ Some found → NameIs text found
name_is text found h = by_name (take_while is_name_byte text) refl h
  where
    k : ℕ
    k = prefix_len is_name_byte text

    parted : text ≡ take k text ++ drop (length (take k text)) text
    parted = sym (ap (λ n. take k text ++ drop n text) (length-take-le k text (prefix_len-le-length is_name_byte text))
        ∙ take-append-drop k text)

    by_name : (name : List ℕ) → take k text ≡ name → name_or_none text name ≡ Some found → NameIs text found
    by_name [] is e = let clash : None ≡ Some found = e in absurd (cc)
    by_name (n ∷ ns) is e =
        let same : (n ∷ ns, drop (length (n ∷ ns)) text) ≡ found =
        ap (λ (o : Option (List ℕ × List ℕ)). unwrap_or o ([], [])) (sym (is_name text n ns) ∙ e) in
        subst (NameIs text) same (record {
          some = omega arith;
          named = ap (list_all is_name_byte) (sym is) ∙ run_passes is_name_byte text;
          is = subst (λ xs. text ≡ xs ++ drop (length xs) text) is parted;
        })

-- a name that was read comes after a gap
pub name_after_gap : (text : List ℕ) (found : List ℕ × List ℕ) → name_at (after_gap text) ≡ Some found
    → (gap : List ℕ) × IsGap false gap × (text ≡ gap ++ (found.0 ++ found.1))
name_after_gap text found h = by_gap (after_gap text) (gap_goes text) (name_is (after_gap text) found h)
  where
    by_gap : (inner : List ℕ) → GapLeaves false text inner → NameIs inner found
        → (gap : List ℕ) × IsGap false gap × (text ≡ gap ++ (found.0 ++ found.1))
    by_gap inner (inl none) read =
        let some = read.some in
        let empty : found.0 ++ found.1 ≡ [] = sym read.is ∙ none in
        absurd (omega (arith, some, simp length-append at (ap length empty)))
    by_gap inner (inr g) read = (g.0, g.1, g.2 ∙ ap (λ xs. g.0 ++ xs) read.is)

-- a name and a quote that were read are an opening's
pub opening_is : (text : List ℕ) (found : List ℕ × List ℕ) (rest : List ℕ)
    → name_at (after_gap text) ≡ Some found → after_next 34 found.1 ≡ Some rest
    → (opening : List ℕ) × OpensTag found.0 opening × (91 ∷ text ≡ opening ++ rest)
opening_is text found rest named quoted =
    let front = name_after_gap text found named in
    let read = name_is (after_gap text) found named in
    by_gap front.0 front.1 front.2 read (after_gap found.1) (gap_goes found.1)
    (byte_is 34 (after_gap found.1) rest quoted)
  where
    whole : (before name after : List ℕ) → 91 ∷ (before ++ (name ++ (after ++ 34 ∷ rest)))
        ≡ (91 ∷ (before ++ (name ++ (after ++ 34 ∷ [])))) ++ rest
    whole before name after = simp append_assoc

    by_gap : (before : List ℕ) → IsGap false before → text ≡ before ++ (found.0 ++ found.1)
        → NameIs (after_gap text) found → (inner : List ℕ) → GapLeaves false found.1 inner → inner ≡ 34 ∷ rest
        → (opening : List ℕ) × OpensTag found.0 opening × (91 ∷ text ≡ opening ++ rest)
    by_gap before h is read inner (inl none) quote = absurd (cc)
    by_gap before h is read inner (inr g) quote = (
      91 ∷ (before ++ (found.0 ++ (g.0 ++ 34 ∷ []))),
      opens {before = before} {after = g.0} h read.some read.named g.1,
      ap (λ xs. 91 ∷ xs) (is ∙ ap (λ xs. before ++ (found.0 ++ xs)) (g.2 ∙ ap (λ xs. g.0 ++ xs) quote))
          ∙ whole before found.0 g.0,
    )
