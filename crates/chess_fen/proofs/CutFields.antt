-- What `fields_of` gives of a text, one field at a time: spaces at the front don't count (fields_of-skip; by
-- induction); if nothing is left after them, there is no field (no_fields); otherwise the first field goes up to the
-- next space or the text's end, and the others are those of the rest (next_fields). For this, a list is cut at its
-- first element that passes a test, or is left whole (cut).
use Rattle.std.proofs.Common.{◌≡◌, ℕ, suc, ◌+◌, ◌<◌, ◌≤◌, Bool, true, false, cond, eqb, ltb, List, [], ◌∷◌, length, drop, refl, sym, ap, ◌∙◌, arith, inl, inr, not, ◌⊎◌, position, unwrap_or}
use Rattle.std.specs.List.{position_or_len, before_first, slice_split}
use Rattle.std.proofs.{lemmas.Bool.Decides.nat_tests, lemmas.Bool.cases_lt, lemmas.List.nil_from_length}
use Rattle.chess_fen.specs.Texts.{fields_of}

-- the index of the first element that passes, or the length if none does, is at most the length
pub place_le : {A : Type 0} (p : A → Bool) (xs : List A) → position_or_len p xs ≤ length xs
place_le p [] = omega arith
place_le p (x ∷ xs) = grind (arith, place_le p xs)

-- where `position` finds no element that passes, the list's length is taken as its index
pub place_or_len : {A : Type 0} (p : A → Bool) (xs : List A)
    → unwrap_or (position p xs) (length xs) ≡ position_or_len p xs
place_or_len p xs = elim (cases_lt (position_or_len p xs) (length xs)) [
  | inl lt ↦ grind (arith, nat_tests)
  | inr ge ↦ grind (arith, nat_tests, place_le p xs)
]

-- spaces before the first field don't count
pub fields_of-skip : (text : List ℕ) → fields_of text
    ≡ fields_of (drop (position_or_len (λ b. not (eqb b 32)) text) text)
fields_of-skip [] = refl
fields_of-skip (c ∷ cs) = by_test (eqb c 32) c cs refl (fields_of-skip cs)
  where
    by_test : (b : Bool) (c : ℕ) (cs : List ℕ) → eqb c 32 ≡ b
        → fields_of cs ≡ fields_of (drop (position_or_len (λ b. not (eqb b 32)) cs) cs)
        → fields_of (c ∷ cs) ≡ fields_of (drop (position_or_len (λ b. not (eqb b 32)) (c ∷ cs)) (c ∷ cs))
    by_test true c cs e more =
        let next : 1 + position_or_len (λ b. not (eqb b 32)) cs ≡ suc (position_or_len (λ b. not (eqb b 32)) cs) =
        omega arith in
        rw e (more ∙ ap (λ n. fields_of (drop n (c ∷ cs))) (sym next))
    by_test false c cs e more =
        ap (λ b. fields_of (drop (cond (not (not b)) (1 + position_or_len (λ b. not (eqb b 32)) cs) 0) (c ∷ cs)))
        (sym e)

-- no element of the list passes the test: cutting the list at such elements leaves it whole
pub record IsWhole {A : Type 0} (p : A → Bool) (xs : List A) : Type 0 where
  pub rest : drop (position_or_len p xs) xs ≡ []
  pub front : before_first p xs ≡ xs
  pub split : slice_split p xs ≡ xs ∷ []

-- the list is cut at its first element that passes (`at`): what is before it, and what is after it (`tail`) cut
-- again
pub record IsCut {A : Type 0} (p : A → Bool) (xs : List A) : Type 0 where
  pub at : A
  pub tail : List A
  pub passes : p at ≡ true
  pub rest : drop (position_or_len p xs) xs ≡ at ∷ tail
  pub split : slice_split p xs ≡ before_first p xs ∷ slice_split p tail

-- each list is left whole (`IsWhole`) or cut (`IsCut`) at elements that pass the test
pub cut : {A : Type 0} (p : A → Bool) (xs : List A) → IsWhole p xs ⊎ IsCut p xs
cut p [] = inl (record { rest = refl; front = refl; split = refl })
cut {A} p (x ∷ xs) = by_test (p x) refl (cut p xs)
  where
    next : 1 + position_or_len p xs ≡ suc (position_or_len p xs)
    next = omega arith

    by_test : (b : Bool) → p x ≡ b → IsWhole p xs ⊎ IsCut p xs → IsWhole p (x ∷ xs) ⊎ IsCut p (x ∷ xs)
    by_test true e more = inr (record { at = x; tail = xs; passes = e; rest = rw e refl; split = rw e refl })
    by_test false e (inl w) =
        inl (record {
          rest = rw (e, next) w.rest;
          front = rw (e, next) (ap (λ ys. x ∷ ys) w.front);
          split = rw (e, w.split) refl;
        })
    by_test false e (inr c) =
        inr (record {
          at = c.at;
          tail = c.tail;
          passes = c.passes;
          rest = rw (e, next) c.rest;
          split = rw (e, next, c.split) refl;
        })

-- if nothing is left after the first spaces, the text has no fields
pub no_fields : (text from : List ℕ) → from ≡ drop (position_or_len (λ b. not (eqb b 32)) text) text → length from ≡ 0
    → fields_of text ≡ []
no_fields text from is none = fields_of-skip text ∙ ap fields_of (sym is ∙ nil_from_length from none)

-- a text that begins with a field: that field, and then those of the rest from its first space on
first_field : (text : List ℕ) → 0 < length (before_first (λ b. eqb b 32) text)
    → fields_of text ≡ before_first (λ b. eqb b 32) text ∷ fields_of (drop (position_or_len (λ b. eqb b 32) text) text)
first_field text h = by_cut (cut (λ b. eqb b 32) text)
  where
    keeps : ltb 0 (length (before_first (λ b. eqb b 32) text)) ≡ true
    keeps = grind (arith, nat_tests)

    by_cut : IsWhole (λ b. eqb b 32) text ⊎ IsCut (λ b. eqb b 32) text
        → fields_of text ≡ before_first (λ b. eqb b 32) text ∷ fields_of
        (drop (position_or_len (λ b. eqb b 32) text) text)
    by_cut (inl w) =
        let long : ltb 0 (length text) ≡ true = ap (λ ys. ltb 0 (length ys)) (sym w.front) ∙ keeps in
        rw (w.split, w.rest, long) (ap (λ ys. ys ∷ []) (sym w.front))
    by_cut (inr c) = rw (c.split, c.rest, keeps, c.passes) refl

-- a text in which something is left after its first spaces (`from`): its first field is what is before the next space
-- (`front`), and its other fields are those of the rest (`back`)
pub next_fields : (text from front back : List ℕ) → from ≡ drop (position_or_len (λ b. not (eqb b 32)) text) text
    → 0 < length from → front ≡ before_first (λ b. eqb b 32) from
    → back ≡ drop (position_or_len (λ b. eqb b 32) from) from → fields_of text ≡ front ∷ fields_of back
next_fields text from front back is some f b =
    fields_of-skip text ∙ ap fields_of (sym is) ∙ first_field from (begins (cut (λ b. not (eqb b 32)) text))
    ∙ rw (f, b) refl
  where
    begins : IsWhole (λ b. not (eqb b 32)) text ⊎ IsCut (λ b. not (eqb b 32)) text
        → 0 < length (before_first (λ b. eqb b 32) from)
    begins (inl w) = absurd (omega (arith, ap length (is ∙ w.rest)))
    begins (inr c) =
        let first : eqb c.at 32 ≡ false = grind (arith, nat_tests, c.passes) in
        let next : 1 + position_or_len (λ b. eqb b 32) c.tail ≡ suc (position_or_len (λ b. eqb b 32) c.tail) =
        omega arith in
        rw (is ∙ c.rest, first, next) (omega arith)
