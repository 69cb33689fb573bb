-- A text has exactly one split by kinds (IsSplitByKinds): any such split is the list of tokens that is read
-- (kinds_read), and this list is such a split (read_kinds): by induction on the split, and on the bytes left. Also
-- where no token begins there is one fault, the one that is read (fault_read).
use Rattle.std.proofs.Common.{◌≡◌, ℕ, zero, suc, ◌+◌, ◌-◌, ◌<◌, ◌≤◌, Bool, true, false, cond, eqb, List, [], ◌∷◌, ◌++◌, length, drop, refl, sym, ap, subst, ◌∙◌, inl, inr, arith}
use Rattle.std.specs.List.{list_any}
use Rattle.std.proofs.{lemmas.Bool.or_parts, lemmas.List.length-append, lemmas.List.length-drop, lemmas.List.nil_from_length}
use Rattle.pgn_tokens.specs.Tokens.{Token, Skip, Tag, Word, Bad_tag, Unclosed_comment, Unclosed_variation, Bad, token_at, begins_line, tokens_from}
use Rattle.pgn_tokens.proofs.{Walk.no_token, Walk.token_more, Walk.token_nearer, Cuts.same_first}
use Rattle.pgn_tokens.proofs.TokenKinds.{not_empty, token_read, is_fault, no_token_of, TokenSays, known, faulty, token_says, comment_fault}
use Rattle.pgn_tokens.specs.shared.Kinds.{IsOf, IsLongest, token_of, HasNoToken, HasUnclosedComment, IsFault, IsSplitByKinds, ended, token, stopped}

-- ---- faults

-- only a text that begins with `{` or `(` has a comment that isn't closed
no_comment : (c : ℕ) (rest : List ℕ) → eqb c 123 ≡ false → eqb c 40 ≡ false → (n : ℕ) → HasUnclosedComment (c ∷ rest) n
    → ⊥
no_comment c rest brace opens n (inl (comment, is, lack, here)) =
    let no : true ≡ false = sym (ap (λ j. eqb j 123) (same_first c 123 rest comment is)) ∙ brace in absurd (cc)
no_comment c rest brace opens n (inr (inner, is, h)) =
    let no : true ≡ false = sym (ap (λ j. eqb j 40) (same_first c 40 rest inner is)) ∙ opens in absurd (cc)

-- the fault of a text with this first byte, unless it is a comment that isn't closed
abbrev fault_by : ℕ → Token
fault_by c = cond (eqb c 40) Unclosed_variation (cond (eqb c 91) Bad_tag Bad)

-- the fault of a text that begins with byte c: a comment that isn't closed, or if there is none, the fault that c
-- decides (`fault_by`)
data FaultSays (c : ℕ) (rest : List ℕ) : Token → Type 0 where
  of_comment : (n : ℕ) → HasUnclosedComment (c ∷ rest) n → FaultSays c rest (Unclosed_comment n)
  of_byte : (fault : Token) → fault ≡ fault_by c → ((n : ℕ) → HasUnclosedComment (c ∷ rest) n → ⊥)
      → FaultSays c rest fault

-- a fault by the relation is such a fault
fault_says : (c : ℕ) (rest : List ℕ) (fault : Token) → IsFault (c ∷ rest) fault → FaultSays c rest fault
fault_says c rest (Unclosed_comment n) h = of_comment n h
fault_says c rest Unclosed_variation ((r, is), none) =
    of_byte Unclosed_variation (sym (ap fault_by (same_first c 40 rest r is))) none
fault_says c rest Bad_tag (r, is) =
    let first : c ≡ 91 = same_first c 91 rest r is in
    of_byte Bad_tag (sym (ap fault_by first))
    (no_comment c rest (ap (λ j. eqb j 123) first) (ap (λ j. eqb j 40) first))
fault_says c rest Bad (d, r, is, none) =
    let same : list_any (λ k. eqb c k) (123 ∷ 40 ∷ 91 ∷ []) ≡ false =
    ap (λ j. list_any (λ k. eqb j k) (123 ∷ 40 ∷ 91 ∷ [])) (same_first c d rest r is) ∙ none in
    let brace = or_parts (eqb c 123) _ same in
    let opens = or_parts (eqb c 40) _ brace.1 in
    let bracket = or_parts (eqb c 91) _ opens.1 in
    of_byte Bad (rw (opens.0, bracket.0) refl) (no_comment c rest brace.0 opens.0)
fault_says c rest Skip h = absurd h
fault_says c rest (Tag name string left) h = absurd h
fault_says c rest (Word word) h = absurd h

-- a text has one fault
faults_agree : (b : Bool) (c : ℕ) (rest : List ℕ) (f g : Token) → FaultSays c rest f → FaultSays c rest g → f ≡ g
faults_agree b c rest f g (of_comment n h) (of_comment m k) =
    ap (λ (t : Token × List ℕ). t.0) (sym (comment_fault b (c ∷ rest) n h) ∙ comment_fault b (c ∷ rest) m k)
faults_agree b c rest f g (of_comment n h) (of_byte other is none) = absurd (none n h)
faults_agree b c rest f g (of_byte one is none) (of_comment m k) = absurd (none m k)
faults_agree b c rest f g (of_byte one is none) (of_byte other same none_too) = is ∙ sym same

-- the fault of a text that begins with no token is the one that is read
fault_read : (b : Bool) (c : ℕ) (rest : List ℕ) (fault : Token) → HasNoToken b (c ∷ rest) → IsFault (c ∷ rest) fault
    → token_at b c rest ≡ (fault, [])
fault_read b c rest fault none h = by_result (token_at b c rest) refl (token_says b c rest)
  where
    by_result : (t : Token × List ℕ) → token_at b c rest ≡ t → TokenSays b (c ∷ rest) t → t ≡ (fault, [])
    by_result t e (known kind front r is long) = absurd (none kind front r is long.is)
    by_result t e (faulty g is_one k) =
        ap (λ (f : Token). (f, []))
        (faults_agree b c rest g fault (fault_says c rest g k) (fault_says c rest fault h))

-- ---- a whole text

-- an offset from which a byte is left is in the text
inside_text : (text : List ℕ) (at c : ℕ) (rest : List ℕ) → drop at text ≡ c ∷ rest → at < length text
inside_text text at c rest e = omega (arith, ap length e, length-drop at text)

-- a split of a text is the one that is read
pub kinds_read : (text : List ℕ) {at : ℕ} {tokens : List (ℕ × Token)} → IsSplitByKinds text at tokens
    → tokens ≡ tokens_from text at
kinds_read text (ended {at} e) = sym (no_token text at (omega (arith, ap length e)))
kinds_read text (token {at} kind front rest {tokens} e long more) = by_front front e long (kinds_read text more)
  where
    by_front : (front : List ℕ) → drop at text ≡ front ++ rest → IsLongest (IsOf (begins_line text at) kind) front rest
        → tokens ≡ tokens_from text (at + length front)
        → (length text - at, token_of kind front (length rest)) ∷ tokens ≡ tokens_from text at
    by_front [] e long more = absurd (not_empty (begins_line text at) kind long.is)
    by_front (c ∷ u) e long more =
        let t : Token × List ℕ = token_at (begins_line text at) c (u ++ rest) in
        let within : at < length text = inside_text text at c (u ++ rest) e in
        let reads : t ≡ (token_of kind (c ∷ u) (length rest), rest) = token_read (begins_line text at) kind
        (c ∷ u) rest long in
        let place : at + suc (length u) ≡ length text - length rest =
        omega (arith, within, ap length e, length-append (c ∷ u) rest, length-drop at text) in
        ap (λ ts. (length text - at, token_of kind (c ∷ u) (length rest)) ∷ ts)
        (more ∙ ap (tokens_from text) place)
        ∙ sym (token_more text at c (u ++ rest) e (omega (arith, within))
        ∙ ap (λ (p : Token × List ℕ). (length text - at, p.0) ∷ tokens_from text (length text - length p.1)) reads)
kinds_read text (stopped {at} {fault} none h) = by_rest (drop at text) refl none h
  where
    by_rest : (xs : List ℕ) → drop at text ≡ xs → HasNoToken (begins_line text at) xs → IsFault xs fault
        → (length text - at, fault) ∷ [] ≡ tokens_from text at
    by_rest [] e none h = absurd (no_fault fault h)
      where
        no_fault : (f : Token) → IsFault [] f → ⊥
        no_fault (Unclosed_comment n) (inl (comment, is, lack, here)) = absurd (cc)
        no_fault (Unclosed_comment n) (inr (inner, is, h)) = absurd (cc)
        no_fault Unclosed_variation ((r, is), k) = absurd (cc)
        no_fault Bad_tag (r, is) = absurd (cc)
        no_fault Bad (d, r, is, k) = absurd (cc)
        no_fault Skip k = k
        no_fault (Tag name string left) k = k
        no_fault (Word word) k = k
    by_rest (c ∷ rest) e none h =
        let within : at < length text = inside_text text at c rest e in
        let reads : token_at (begins_line text at) c rest
        ≡ (fault, []) = fault_read (begins_line text at) c rest fault none h in
        sym (token_more text at c rest e (omega (arith, within))
        ∙ ap (λ (p : Token × List ℕ). (length text - at, p.0) ∷ tokens_from text (length text - length p.1)) reads
        ∙ ap (λ ts. (length text - at, fault) ∷ ts)
        (no_token text (length text - 0) (omega (arith, length-drop (length text - 0) text))))

-- what is read is a split of the text: at its end; with one token more, if the rest's tokens are; and so for any text,
-- by induction on the bytes left
none_left : (text : List ℕ) (at : ℕ) → drop at text ≡ [] → IsSplitByKinds text at (tokens_from text at)
none_left text at e = subst (IsSplitByKinds text at) (sym (no_token text at (omega (arith, ap length e)))) (ended e)

one_more : (n : ℕ) (text : List ℕ) (at c : ℕ) (rest : List ℕ) → drop at text ≡ c ∷ rest → length rest ≤ n
    → ((m : ℕ) → length (drop m text) ≤ n → IsSplitByKinds text m (tokens_from text m))
    → IsSplitByKinds text at (tokens_from text at)
one_more n text at c rest e few again =
    subst (IsSplitByKinds text at) (sym (token_more text at c rest e (omega (arith, within))))
    (by_result (token_at b c rest) refl (token_says b c rest) (token_nearer text at c rest e (omega (arith, within))))
  where
    b : Bool
    b = begins_line text at

    within : at < length text
    within = inside_text text at c rest e

    by_result : (t : Token × List ℕ) → token_at b c rest ≡ t → TokenSays b (c ∷ rest) t → at < length text - length t.1
        → IsSplitByKinds text at ((length text - at, t.0) ∷ tokens_from text (length text - length t.1))
    by_result t is (known kind front r same long) nearer =
        let place : at + length front ≡ length text - length r =
        omega (arith, within, ap length e, ap length same, length-append front r, length-drop at text) in
        token kind front r (e ∙ same) long
        (subst (λ m. IsSplitByKinds text (at + length front) (tokens_from text m)) place
        (again (at + length front)
        (omega (
          arith,
          within,
          nearer,
          place,
          few,
          ap length e,
          length-drop at text,
          length-drop
              (at + length front) text,
        ))))
    by_result t is (faulty fault is_one h) nearer =
        let none : HasNoToken b (drop at text) =
        subst (HasNoToken b) (sym e)
        (no_token_of b (c ∷ rest) (ap (λ (u : Token × List ℕ). is_fault u.0) is ∙ is_one)) in
        subst (λ ts. IsSplitByKinds text at ((length text - at, fault) ∷ ts))
        (sym (no_token text (length text - 0) (omega (arith, length-drop (length text - 0) text))))
        (stopped none (subst (λ xs. IsFault xs fault) (sym e) h))

split_within : (n : ℕ) (text : List ℕ) (at : ℕ) → length (drop at text) ≤ n
    → IsSplitByKinds text at (tokens_from text at)
split_within zero text at few = none_left text at (nil_from_length (drop at text) (omega (arith, few)))
split_within (suc n) text at few = by_rest (drop at text) refl (λ m k. split_within n text m k)
  where
    by_rest : (xs : List ℕ) → drop at text ≡ xs
        → ((m : ℕ) → length (drop m text) ≤ n → IsSplitByKinds text m (tokens_from text m))
        → IsSplitByKinds text at (tokens_from text at)
    by_rest [] e again = none_left text at e
    by_rest (c ∷ rest) e again = one_more n text at c rest e (omega (arith, few, ap length e)) again

pub read_kinds : (text : List ℕ) (at : ℕ) → IsSplitByKinds text at (tokens_from text at)
read_kinds text at = split_within (length (drop at text)) text at (omega arith)
