-- A text is read as a position (`fen_reading_as`) exactly where it denotes this position and the position is sound
-- (denoted-reading, reading-denoted), and with a fault exactly where this fault is true of it (faulty, fault-read). By
-- the number of fields, then by the cases of `steps` (Steps), one for each field, then by the first condition that
-- fails. What is read is of the variant asked for (reading_in_variant).
use Rattle.std.proofs.Common.{◌≡◌, ◌≢◌, ℕ, ◌⊎◌, inl, inr, Bool, true, false, List, [], ◌∷◌, ◌++◌, length, take, drop, Option, Some, None, Result, Ok, Err, refl, sym, ap, subst, ◌∙◌, arith, codes, max, IfOk}
use Rattle.chess_base.specs.{declared.man.Colour.Colour, declared.man.Rights.Rights, declared.man.Variant.Variant, declared.setup.Setup.Setup, Men.Men, Sound.IsSound, declared.fen_fault.FenFault.FenFault}
use Rattle.chess_base.specs.Faults.{conditions, conditions_if, first_failing, setup_fault}
use Rattle.chess_base.proofs.shared.Sound.{first_failing-conditions_if, no_fault_from_IsSound}
use Rattle.chess_base.specs.declared.fen_fault.FenFault.TheVariants as faults
use Rattle.text_lines.specs.Words.{short_number}
use Rattle.chess_fen.specs.RightNames.{names_rights_well}
use Rattle.chess_fen.specs.Texts.{placement_of, is_castling_field, target_of, fields_of}
use Rattle.chess_fen.specs.Reading.{◌>>=◌, side_of, conditions_of, fen_reading_as}
use Rattle.chess_fen.specs.Denotation.{DenotesCounters, DenotesFields, DenotesText, DenotesFenAs}
use Rattle.chess_fen.specs.FenFaults.{DenotesSomeMen, DenotesSomeSide, IsFieldFault, HasWrongFieldCount, IsMalformed, IsFaultAs}
use Rattle.chess_fen.proofs.DenotedFields.{denoted-placement, placement-denoted, denoted-side, side-denoted, denoted-target, target-denoted}
use Rattle.chess_fen.proofs.Steps.{steps, denoted_by, unless_fault, if_fit, denoted_in, third, reading-steps}

-- ---- counters

-- the texts h and f are those of both counters, which the fields `more` give, or leave out (then they are 0 and 1):
-- reading them as numbers gives what `DenotesCounters` says
record AreCounters (more : List (List ℕ)) (h f : List ℕ) : Type 0 where
  read : (n k : ℕ) → short_number 6 h ≡ Some n → short_number 6 f ≡ Some k → DenotesCounters more n (max k 1)
  denoted : (n m : ℕ) → DenotesCounters more n m
      → (k : ℕ) × (short_number 6 h ≡ Some n) × (short_number 6 f ≡ Some k) × (m ≡ max k 1)

-- without the two last fields the counters' texts are 0 and 1
left_out : AreCounters [] (codes "0") (codes "1")
left_out = record { read = read; denoted = λ n m s. (1, ap Some (sym s.0), refl, s.1) }
  where
    read : (n k : ℕ) → Some 0 ≡ Some n → Some 1 ≡ Some k → DenotesCounters [] n (max k 1)
    read n k p q = let a : n ≡ 0 = cc in let b : k ≡ 1 = cc in (a, ap (λ j. max j 1) b)

-- with the two last fields they are the counters' texts
given : (h f : List ℕ) → AreCounters (h ∷ f ∷ []) h f
given h f = record { read = λ n k p q. (p, (k, q, refl)); denoted = λ n m s. (s.1.0, s.0, s.1.1, s.1.2) }

-- ---- the fields in turn

-- what is to be shown of a result: a position that was read is denoted by the fields, and a fault is that of the first
-- field that denotes nothing
abbrev Outcome : Variant → List ℕ → List ℕ → List ℕ → List ℕ → List (List ℕ) → Result Setup FenFault → Type 0
Outcome v a b c d more (Ok p) = DenotesFields v a b c d more p
Outcome v a b c d more (Err f) = IsFieldFault v a b c d more f

-- a value that is there is not `None`
some_impossible : {A : Type 0} (o : Option A) (x : A) → o ≡ None → o ≡ Some x → ⊥
some_impossible o x e h = let f = sym e ∙ h in absurd cc

-- the fields denote what is read of them, or the first that denotes nothing is the fault; by the cases of `steps`
outcome : (v : Variant) (a b c d h f : List ℕ) (more : List (List ℕ)) → AreCounters more h f
    → Outcome v a b c d more (denoted_by v a b c d h f)
outcome v a b c d h f more counters =
    by_steps (placement_of a) refl (side_of b) refl (is_castling_field v c) refl (target_of d) refl (short_number 6 h) refl
    (short_number 6 f) refl
  where
    said : (men : Men) → placement_of a ≡ Some men → DenotesSomeMen a
    said men e = (men, denoted-placement a men e)

    moved : (colour : Colour) → side_of b ≡ Some colour → DenotesSomeSide b
    moved colour e = (colour, denoted-side b colour e)

    counted : (men : Men) → placement_of a ≡ Some men → (colour : Colour) → side_of b ≡ Some colour
        → is_castling_field v c ≡ true → (target : Option ℕ) → target_of d ≡ Some target
        → ((n m : ℕ) → DenotesCounters more n m → ⊥) → IsFieldFault v a b c d more faults.Counters
    counted men e0 colour e1 e2 target e3 none =
        (said men e0, moved colour e1, e2, (target, denoted-target d target e3), none)

    by_steps : (men : Option Men) → placement_of a ≡ men → (side : Option Colour) → side_of b ≡ side
        → (fits : Bool) → is_castling_field v c ≡ fits → (target : Option (Option ℕ)) → target_of d ≡ target
        → (n : Option ℕ) → short_number 6 h ≡ n → (k : Option ℕ) → short_number 6 f ≡ k
        → Outcome v a b c d more (steps v c men side fits target n k)
    by_steps None e0 side e1 fits e2 target e3 n e4 k e5 =
        λ men s. some_impossible (placement_of a) men e0 (placement-denoted a men s)
    by_steps (Some men) e0 None e1 fits e2 target e3 n e4 k e5 =
        (said men e0, λ colour s. some_impossible (side_of b) colour e1 (side-denoted b colour s))
    by_steps (Some men) e0 (Some colour) e1 false e2 target e3 n e4 k e5 = (said men e0, moved colour e1, e2)
    by_steps (Some men) e0 (Some colour) e1 true e2 None e3 n e4 k e5 =
        (said men e0, moved colour e1, e2, λ t s. some_impossible (target_of d) t e3 (target-denoted d t s))
    by_steps (Some men) e0 (Some colour) e1 true e2 (Some target) e3 None e4 k e5 =
        counted men e0 colour e1 e2 target e3 (λ n m s. some_impossible (short_number 6 h) n e4 (counters.denoted n m s).1)
    by_steps (Some men) e0 (Some colour) e1 true e2 (Some target) e3 (Some n) e4 None e5 =
        counted men e0 colour e1 e2 target e3 (λ n m s. (let k = counters.denoted n m s in
        some_impossible (short_number 6 f) k.0 e5 k.2))
    by_steps (Some men) e0 (Some colour) e1 true e2 (Some target) e3 (Some n) e4 (Some k) e5 = record {
      variant = refl;
      men = denoted-placement a men e0;
      side = denoted-side b colour e1;
      castling = e2;
      rights = refl;
      target = denoted-target d target e3;
      counters = counters.read n k e4 e5;
    }

-- ---- the text

-- what is to be shown of reading a text's fields: a position is denoted by the text, a fault is a wrong number of
-- fields or that of a field
abbrev pub TextOutcome : Variant → List ℕ → Result Setup FenFault → Type 0
TextOutcome v text (Ok p) = DenotesText v text (third (fields_of text)) p
TextOutcome v text (Err f) = HasWrongFieldCount text f ⊎ IsMalformed v text f

-- what was shown of four or six fields (`Outcome`) holds of the text that has them (`TextOutcome`)
of_fields : (v : Variant) (text : List ℕ) (a b c d : List ℕ) (more : List (List ℕ))
    → fields_of text ≡ a ∷ b ∷ c ∷ d ∷ more → (length more ≡ 0) ⊎ (length more ≡ 2) → (r : Result Setup FenFault)
    → Outcome v a b c d more r → TextOutcome v text r
of_fields v text a b c d more are count (Ok p) s =
    subst (λ castling. DenotesText v text castling p) (sym (ap third are)) (a, b, d, more, are, s)
of_fields v text a b c d more are count (Err f) s = inr (a, b, c, d, more, are, count, s)

-- a text with another number of fields has the fault of that
fieldless : (v : Variant) (text : List ℕ) (n : ℕ) → length (fields_of text) ≡ n → n ≢ 4 → n ≢ 6
    → TextOutcome v text (Err faults.Fields)
fieldless v text n e four six = inl (refl, (λ h. four (sym e ∙ h)), (λ h. six (sym e ∙ h)))

-- reading a text's fields is as `TextOutcome` says, by the number of fields
text_outcome_by : (v : Variant) (text : List ℕ) (fields : List (List ℕ)) → fields_of text ≡ fields
    → TextOutcome v text (denoted_in v fields)
text_outcome_by v text [] e = fieldless v text 0 (ap length e) (λ h. omega (arith, h)) (λ h. omega (arith, h))
text_outcome_by v text (a ∷ []) e = fieldless v text 1 (ap length e) (λ h. omega (arith, h)) (λ h. omega (arith, h))
text_outcome_by v text (a ∷ b ∷ []) e = fieldless v text 2 (ap length e) (λ h. omega (arith, h)) (λ h. omega (arith, h))
text_outcome_by v text (a ∷ b ∷ c ∷ []) e =
    fieldless v text 3 (ap length e) (λ h. omega (arith, h)) (λ h. omega (arith, h))
text_outcome_by v text (a ∷ b ∷ c ∷ d ∷ []) e =
    of_fields v text a b c d [] e (inl refl) (denoted_by v a b c d (codes "0") (codes "1"))
    (outcome v a b c d (codes "0") (codes "1") [] left_out)
text_outcome_by v text (a ∷ b ∷ c ∷ d ∷ f ∷ []) e =
    fieldless v text 5 (ap length e) (λ h. omega (arith, h)) (λ h. omega (arith, h))
text_outcome_by v text (a ∷ b ∷ c ∷ d ∷ f ∷ g ∷ []) e =
    of_fields v text a b c d (f ∷ g ∷ []) e (inr refl) (denoted_by v a b c d f g)
    (outcome v a b c d f g (f ∷ g ∷ []) (given f g))
text_outcome_by v text (a ∷ b ∷ c ∷ d ∷ f ∷ g ∷ h ∷ more) e =
    fieldless v text (length (a ∷ b ∷ c ∷ d ∷ f ∷ g ∷ h ∷ more)) (ap length e) (λ n. omega (arith, n))
    (λ n. omega (arith, n))

-- what the fields of a text are read as is denoted by the text, or its fault is true
pub text_outcome : (v : Variant) (text : List ℕ) → TextOutcome v text (denoted_in v (fields_of text))
text_outcome v text = text_outcome_by v text (fields_of text) refl

-- ---- and back

-- the position p with another variant, rights and fullmove number
abbrev with_facts : Setup → Variant → Rights → ℕ → Setup
with_facts p v rights fullmove = record {
  variant = v;
  men = p.men;
  side = p.side;
  rights = rights;
  target = p.target;
  halfmove = p.halfmove;
  fullmove = fullmove;
}

-- a position that the fields denote is read of them: each field denotes its part of it
fields-denoted : (v : Variant) (a b c d h f : List ℕ) (more : List (List ℕ)) (p : Setup) → AreCounters more h f
    → DenotesFields v a b c d more p → denoted_by v a b c d h f ≡ Ok p
fields-denoted v a b c d h f more p counters s =
    let k = counters.denoted p.halfmove p.fullmove s.counters in
    let fits : is_castling_field v c ≡ true = s.castling in
    rw (
      placement-denoted a p.men s.men,
      side-denoted b p.side s.side,
      fits,
      target-denoted d p.target s.target,
      k.1,
      k.2,
    )
    (ap (λ (r : Rights). Ok (with_facts p v r (max k.0 1))) (sym s.rights)
    ∙ ap (λ (n : ℕ). Ok (with_facts p v p.rights n)) (sym k.3)
    ∙ ap (λ (u : Variant). Ok (with_facts p u p.rights p.fullmove)) (sym s.variant))

-- a position that four or six fields denote is read of them
in_fields : (v : Variant) (a b c d : List ℕ) (more : List (List ℕ)) (p : Setup) → DenotesFields v a b c d more p
    → denoted_in v (a ∷ b ∷ c ∷ d ∷ more) ≡ Ok p
in_fields v a b c d [] p s = fields-denoted v a b c d (codes "0") (codes "1") [] p left_out s
in_fields v a b c d (f ∷ []) p s = absurd s.counters
in_fields v a b c d (f ∷ g ∷ []) p s = fields-denoted v a b c d f g (f ∷ g ∷ []) p (given f g) s
in_fields v a b c d (f ∷ g ∷ h ∷ more) p s = absurd s.counters

-- a position that a text denotes, sound or not, is read of its fields
pub text-denoted : (v : Variant) (text castling : List ℕ) (p : Setup) → DenotesText v text castling p
    → denoted_in v (fields_of text) ≡ Ok p
text-denoted v text castling p s = ap (denoted_in v) s.4 ∙ in_fields v s.0 s.1 castling s.2 s.3 p s.5

-- the castling field of a text that denotes a position is its third
third-is : (v : Variant) (text castling : List ℕ) (p : Setup) → DenotesText v text castling p
    → third (fields_of text) ≡ castling
third-is v text castling p s = ap third s.4

-- ---- the position

-- where the letters name the rights rightly, the conditions of the reader are those of soundness
named-fault : (letters : List ℕ) (p : Setup) → names_rights_well p.variant p.men letters ≡ true
    → first_failing (conditions_of letters p) ≡ setup_fault p
unfolding setup_fault
named-fault letters p e =
    ap (λ b. first_failing (conditions_if b p)) e

-- if no condition of a list fails, each one holds: here the one after xs
holds : (xs : List (FenFault × Bool)) (f : FenFault) (b : Bool) (ys : List (FenFault × Bool))
    → first_failing (xs ++ ((f, b) ∷ ys)) ≡ None → b ≡ true
holds [] f true ys e = refl
holds [] f false ys e = absurd cc
holds ((g, true) ∷ xs) f b ys e = holds xs f b ys e
holds ((g, false) ∷ xs) f b ys e = absurd cc

-- a sound position that is denoted is read
pub reading-denoted : (v : Variant) (text : List ℕ) (p : Setup) → DenotesFenAs v text p → IsSound p
    → fen_reading_as v text ≡ Ok p
reading-denoted v text p s h =
    let letters = third (fields_of text) in
    let well : names_rights_well p.variant p.men letters ≡ true =
    ap (names_rights_well p.variant p.men) (third-is v text s.0 p s.1) ∙ s.2 in
    reading-steps v (fields_of text) ∙ ap (λ r. r >>= if_fit letters) (text-denoted v text s.0 p s.1)
    ∙ ap (unless_fault p) (named-fault letters p well ∙ no_fault_from_IsSound p h)

-- what is to be shown of the reading: a position is denoted by the text, and a fault is true of it
abbrev ReadingOutcome : Variant → List ℕ → Result Setup FenFault → Type 0
ReadingOutcome v text (Ok p) = DenotesFenAs v text p
ReadingOutcome v text (Err f) = IsFaultAs v text f

-- the reading of a text is as `ReadingOutcome` says: the fields give a position or a fault, and for a position the
-- first condition that fails is the fault
reading_outcome : (v : Variant) (text : List ℕ) → ReadingOutcome v text (fen_reading_as v text)
reading_outcome v text =
    subst (ReadingOutcome v text) (sym (reading-steps v (fields_of text)))
    (by_fields (denoted_in v (fields_of text)) (text_outcome v text))
  where
    castling : List ℕ
    castling = third (fields_of text)

    by_conditions : (p : Setup) → DenotesText v text castling p → (o : Option FenFault)
        → first_failing (conditions_of castling p) ≡ o → ReadingOutcome v text (unless_fault p o)
    by_conditions p s None e = (
      castling,
      s,
      holds (take 4 (conditions p)) faults.Castling (names_rights_well p.variant p.men castling) (drop 4 (conditions p))
          (sym (first_failing-conditions_if (names_rights_well p.variant p.men castling) p) ∙ e),
    )
    by_conditions p s (Some f) e = inr (inr (p, castling, s, e))

    by_fields : (r : Result Setup FenFault) → TextOutcome v text r
        → ReadingOutcome v text (r >>= if_fit castling)
    by_fields (Ok p) s = by_conditions p s (first_failing (conditions_of castling p)) refl
    by_fields (Err f) (inl h) = inl h
    by_fields (Err f) (inr h) = inr (inl h)

-- what is read is of the variant
pub reading_in_variant : (v : Variant) (text : List ℕ) → IfOk (fen_reading_as v text) (λ p. p.variant ≡ v)
reading_in_variant v text = by_result (fen_reading_as v text) (reading_outcome v text)
  where
    by_result : (r : Result Setup FenFault) → ReadingOutcome v text r → IfOk r (λ p. p.variant ≡ v)
    by_result (Ok p) s = s.1.5.variant
    by_result (Err f) s = tt

-- what is read is denoted
pub denoted-reading : (v : Variant) (text : List ℕ) (p : Setup) → fen_reading_as v text ≡ Ok p → DenotesFenAs v text p
denoted-reading v text p e = subst (ReadingOutcome v text) e (reading_outcome v text)

-- the fault that is found is true of the text
pub faulty : (v : Variant) (text : List ℕ) (f : FenFault) → fen_reading_as v text ≡ Err f → IsFaultAs v text f
faulty v text f e = subst (ReadingOutcome v text) e (reading_outcome v text)

-- ---- a fault that is true is the one that is found

-- a value that can't be there is `None`
none_if : {A : Type 0} (o : Option A) → ((x : A) → o ≡ Some x → ⊥) → o ≡ None
none_if None h = refl
none_if (Some x) h = absurd (h x refl)

-- with no counters the steps end with their fault
unnumbered : (v : Variant) (c : List ℕ) (men : Men) (colour : Colour) (target : Option ℕ) (h f : List ℕ) (more : List (List ℕ))
    → AreCounters more h f → ((n m : ℕ) → DenotesCounters more n m → ⊥)
    → steps v c (Some men) (Some colour) true (Some target) (short_number 6 h) (short_number 6 f) ≡ Err faults.Counters
unnumbered v c men colour target h f more counters none = by_numbers (short_number 6 h) refl (short_number 6 f) refl
  where
    by_numbers : (o : Option ℕ) → short_number 6 h ≡ o → (u : Option ℕ) → short_number 6 f ≡ u
        → steps v c (Some men) (Some colour) true (Some target) o u ≡ Err faults.Counters
    by_numbers None e u i = refl
    by_numbers (Some n) e None i = refl
    by_numbers (Some n) e (Some k) i = absurd (none n (max k 1) (counters.read n k e i))

-- if a field's fault is true, reading the fields finds it: those before it denote something, it denotes nothing
misread : (v : Variant) (a b c d h f : List ℕ) (more : List (List ℕ)) (fault : FenFault) → AreCounters more h f
    → IsFieldFault v a b c d more fault → denoted_by v a b c d h f ≡ Err fault
misread v a b c d h f more faults.Placement n s =
    rw (none_if (placement_of a) (λ men e. s men (denoted-placement a men e))) refl
misread v a b c d h f more faults.Side n s =
    rw (placement-denoted a s.0.0 s.0.1, none_if (side_of b) (λ colour e. s.1 colour (denoted-side b colour e))) refl
misread v a b c d h f more faults.Castling n s =
    rw (placement-denoted a s.0.0 s.0.1, side-denoted b s.1.0 s.1.1, s.2) refl
misread v a b c d h f more faults.EnPassant n s =
    let fits : is_castling_field v c ≡ true = s.2 in
    let none = none_if (target_of d) (λ target e. s.3 target (denoted-target d target e)) in
    rw (placement-denoted a s.0.0 s.0.1, side-denoted b s.1.0 s.1.1, fits, none) refl
misread v a b c d h f more faults.Counters n s =
    let fits : is_castling_field v c ≡ true = s.2 in
    rw (placement-denoted a s.0.0 s.0.1, side-denoted b s.1.0 s.1.1, fits, target-denoted d s.3.0 s.3.1)
    (unnumbered v c s.0.0 s.1.0 s.3.0 h f more n s.4)
misread v a b c d h f more faults.Fields n s = absurd s
misread v a b c d h f more faults.Kings n s = absurd s
misread v a b c d h f more faults.Pawns n s = absurd s
misread v a b c d h f more faults.Men n s = absurd s
misread v a b c d h f more faults.Check n s = absurd s

-- a true fault of a field is what reading a list of four or six fields finds
misread_in : (v : Variant) (a b c d : List ℕ) (more : List (List ℕ)) (f : FenFault)
    → (length more ≡ 0) ⊎ (length more ≡ 2) → IsFieldFault v a b c d more f
    → denoted_in v (a ∷ b ∷ c ∷ d ∷ more) ≡ Err f
misread_in v a b c d [] f count h = misread v a b c d (codes "0") (codes "1") [] f left_out h
misread_in v a b c d (e ∷ []) f (inl n) h = absurd (omega (arith, n))
misread_in v a b c d (e ∷ []) f (inr n) h = absurd (omega (arith, n))
misread_in v a b c d (e ∷ g ∷ []) f count h = misread v a b c d e g (e ∷ g ∷ []) f (given e g) h
misread_in v a b c d (e ∷ g ∷ k ∷ more) f (inl n) h = absurd (omega (arith, n))
misread_in v a b c d (e ∷ g ∷ k ∷ more) f (inr n) h = absurd (omega (arith, n))

-- another number of fields than four or six is the fault that is found
uncounted : (v : Variant) (fields : List (List ℕ)) → length fields ≢ 4 → length fields ≢ 6
    → denoted_in v fields ≡ Err faults.Fields
uncounted v [] four six = refl
uncounted v (a ∷ []) four six = refl
uncounted v (a ∷ b ∷ []) four six = refl
uncounted v (a ∷ b ∷ c ∷ []) four six = refl
uncounted v (a ∷ b ∷ c ∷ d ∷ []) four six = absurd (four refl)
uncounted v (a ∷ b ∷ c ∷ d ∷ f ∷ []) four six = refl
uncounted v (a ∷ b ∷ c ∷ d ∷ f ∷ g ∷ []) four six = absurd (six refl)
uncounted v (a ∷ b ∷ c ∷ d ∷ f ∷ g ∷ h ∷ more) four six = refl

-- a fault that is true of a text is the one that is found: of the number of fields, of a field, or of a condition
pub fault-read : (v : Variant) (text : List ℕ) (f : FenFault) → IsFaultAs v text f → fen_reading_as v text ≡ Err f
fault-read v text f (inl h) =
    reading-steps v (fields_of text)
    ∙ ap (λ r. r >>= if_fit (third (fields_of text))) (uncounted v (fields_of text) h.1 h.2) ∙ ap Err (sym h.0)
fault-read v text f (inr (inl h)) =
    reading-steps v (fields_of text)
    ∙ ap (λ r. r >>= if_fit (third (fields_of text)))
    (ap (denoted_in v) h.5 ∙ misread_in v h.0 h.1 h.2 h.3 h.4 f h.6 h.7)
fault-read v text f (inr (inr h)) =
    reading-steps v (fields_of text)
    ∙ ap (λ r. r >>= if_fit (third (fields_of text))) (text-denoted v text h.1 h.0 h.2)
    ∙ ap (unless_fault h.0)
    (ap (λ castling. first_failing (conditions_of castling h.0)) (third-is v text h.1 h.0 h.2) ∙ h.3)
