-- A run is the longest front of a text whose bytes all pass a test, such as the letters of a word. It can be split off
-- (run_drop, run_take), its bytes pass and the next one doesn't (run_passes, run_stops), and it is the longest front
-- with a property that goes with the test (longest_run, stops_run). Then what is left from the first `\n` on
-- (line_says), and after the first `}` (brace_says). By induction on the text.
use Rattle.std.proofs.Common.{◌≡◌, ℕ, suc, ◌+◌, Bool, true, false, cond, not, eqb, List, [], ◌∷◌, ◌++◌, take, drop, Option, Some, None, refl, sym, ap, subst, ◌∙◌, arith}
use Rattle.std.specs.List.{list_all, prefix_len}
use Rattle.std.proofs.{lemmas.Bool.and_parts, lemmas.Bool.eqb-true, lemmas.Bool.Decides.nat_tests}
use Rattle.pgn_tokens.specs.{Tokens.after_brace, Tokens.line_end, Split.lacks, shared.Kinds.IsLongest}
use Rattle.pgn_tokens.proofs.Skipped.{line_end-more}

-- two bytes differ if only one of them passes a test
pub differs : (p : ℕ → Bool) (c k : ℕ) → p c ≡ true → p k ≡ false → eqb c k ≡ false
differs p c k h other = by_test (eqb c k) refl
  where
    by_test : (t : Bool) → eqb c k ≡ t → t ≡ false
    by_test true e = let is : c ≡ k = grind (arith, nat_tests) in let same : p c ≡ p k = ap p is in absurd (cc)
    by_test false e = refl

-- a property of both values of a choice
pub pick : {A : Type 0} (P : A → Type 0) (t : Bool) (x y : A) → (t ≡ true → P x) → (t ≡ false → P y) → P (cond t x y)
pick P true x y f g = f refl
pick P false x y f g = g refl

-- ---- the bytes that pass a test

-- if all of `front` passes and the first byte of `rest` doesn't (or `rest` is empty), the run of both is `front`:
-- dropping it leaves `rest`
pub run_drop : (p : ℕ → Bool) (front rest : List ℕ) → list_all p front ≡ true → prefix_len p rest ≡ 0
    → drop (prefix_len p (front ++ rest)) (front ++ rest) ≡ rest
run_drop p [] rest h e = rw e refl
run_drop p (c ∷ front) rest h e =
    let both = and_parts (p c) (list_all p front) h in
    let next : 1 + prefix_len p (front ++ rest) ≡ suc (prefix_len p (front ++ rest)) = omega arith in
    rw (both.0, next) (run_drop p front rest both.1 e)

-- and taking it gives `front`
pub run_take : (p : ℕ → Bool) (front rest : List ℕ) → list_all p front ≡ true → prefix_len p rest ≡ 0
    → take (prefix_len p (front ++ rest)) (front ++ rest) ≡ front
run_take p [] rest h e = rw e refl
run_take p (c ∷ front) rest h e =
    let both = and_parts (p c) (list_all p front) h in
    let next : 1 + prefix_len p (front ++ rest) ≡ suc (prefix_len p (front ++ rest)) = omega arith in
    rw (both.0, next) (ap (λ xs. c ∷ xs) (run_take p front rest both.1 e))

-- all bytes of a run pass
pub run_passes : {A : Type 0} (p : A → Bool) (xs : List A) → list_all p (take (prefix_len p xs) xs) ≡ true
run_passes p [] = refl
run_passes {A} p (c ∷ rest) = by_test (p c) refl (run_passes p rest)
  where
    by_test : (t : Bool) → p c ≡ t → list_all p (take (prefix_len p rest) rest) ≡ true
        → list_all p (take (cond t (1 + prefix_len p rest) 0) (c ∷ rest)) ≡ true
    by_test true e more =
        let next : 1 + prefix_len p rest ≡ suc (prefix_len p rest) = omega arith in
        rw (next, e) more
    by_test false e more = refl

-- the byte after a run doesn't pass
pub run_stops : (p : ℕ → Bool) (xs : List ℕ) → prefix_len p (drop (prefix_len p xs) xs) ≡ 0
run_stops p [] = refl
run_stops p (c ∷ rest) = by_test (p c) refl (run_stops p rest)
  where
    by_test : (t : Bool) → p c ≡ t → prefix_len p (drop (prefix_len p rest) rest) ≡ 0
        → prefix_len p (drop (cond t (1 + prefix_len p rest) 0) (c ∷ rest)) ≡ 0
    by_test true e more =
        let next : 1 + prefix_len p rest ≡ suc (prefix_len p rest) = omega arith in
        rw next more
    by_test false e more = rw e refl

-- ---- a run is the longest where the next byte doesn't pass

-- `front` is the longest beginning with P if P lets only bytes that pass follow it, and the next byte doesn't pass
pub longest_run : (P : List ℕ → Type 0) (p : ℕ → Bool) (front rest : List ℕ)
    → ((d : ℕ) (ds : List ℕ) → P (front ++ d ∷ ds) → p d ≡ true) → prefix_len p rest ≡ 0 → P front
    → IsLongest P front rest
longest_run P p front rest passes e is = record { is = is; longest = by_more }
  where
    by_more : (more others : List ℕ) → rest ≡ more ++ others → P (front ++ more) → more ≡ []
    by_more [] others same h = refl
    by_more (d ∷ ds) others same h =
        let first : prefix_len p (d ∷ (ds ++ others)) ≡ 0 = ap (prefix_len p) (sym same) ∙ e in
        let yes : p d ≡ true = passes d ds h in
        let some : cond true (1 + prefix_len p (ds ++ others)) 0 ≡ 0 =
        ap (λ t. cond t (1 + prefix_len p (ds ++ others)) 0) (sym yes) ∙ first in
        absurd (omega (arith, some))

-- the other way round: if `front` is the longest with P, and any byte that passes could follow, then the next byte
-- doesn't pass
pub stops_run : (P : List ℕ → Type 0) (p : ℕ → Bool) (front rest : List ℕ) → IsLongest P front rest
    → ((d : ℕ) → p d ≡ true → P (front ++ d ∷ [])) → prefix_len p rest ≡ 0
stops_run P p front [] h next = refl
stops_run P p front (d ∷ rest) h next = by_test (p d) refl
  where
    by_test : (t : Bool) → p d ≡ t → cond t (1 + prefix_len p rest) 0 ≡ 0
    by_test true e = let none : d ∷ [] ≡ [] = h.longest (d ∷ []) rest refl (next d e) in absurd (cc)
    by_test false e = refl

-- ---- to a line's end

-- what is from the end of the first line on: nothing, or a line end and more
pub data LineSays (text : List ℕ) : List ℕ → Type 0 where
  unended : LineSays text []
  line_then : (line rest : List ℕ) → lacks 10 line ≡ true → text ≡ line ++ 10 ∷ rest → LineSays text (10 ∷ rest)

pub line_says : (text : List ℕ) → LineSays text (line_end text)
line_says [] = unended
line_says (c ∷ text) = by_test (eqb c 10) refl (line_says text)
  where
    by_end : eqb c 10 ≡ false → (end : List ℕ) → LineSays text end → LineSays (c ∷ text) end
    by_end e end unended = unended
    by_end e end (line_then line rest lack is) = line_then (c ∷ line) rest (rw e lack) (ap (λ xs. c ∷ xs) is)

    by_test : (t : Bool) → eqb c 10 ≡ t → LineSays text (line_end text)
        → LineSays (c ∷ text) (line_end (c ∷ text))
    by_test true e h =
        let is : c ≡ 10 = eqb-true c 10 e in
        subst (λ k. LineSays (k ∷ text) (line_end (k ∷ text))) (sym is) (line_then [] text refl refl)
    by_test false e h = subst (LineSays (c ∷ text)) (sym (line_end-more c text e)) (by_end e (line_end text) h)

-- ---- to a closing brace

-- after the first `}` (byte 125) comes the rest; without one there is none
pub brace_found : (inside rest : List ℕ) → lacks 125 inside ≡ true → after_brace (inside ++ 125 ∷ rest) ≡ Some rest
brace_found [] rest h = refl
brace_found (c ∷ inside) rest h =
    let both = and_parts (not (eqb c 125)) (lacks 125 inside) h in
    let other : eqb c 125 ≡ false = differs (λ k. not (eqb k 125)) c 125 both.0 refl in
    rw other (brace_found inside rest both.1)

pub brace_missing : (text : List ℕ) → lacks 125 text ≡ true → after_brace text ≡ None
brace_missing [] h = refl
brace_missing (c ∷ text) h =
    let both = and_parts (not (eqb c 125)) (lacks 125 text) h in
    let other : eqb c 125 ≡ false = differs (λ k. not (eqb k 125)) c 125 both.0 refl in
    rw other (brace_missing text both.1)

-- the text has a `}`: `inside` is what comes before the first one, and `rest` what follows it
pub record Braced (text rest : List ℕ) : Type 0 where
  pub inside : List ℕ
  pub lacks_brace : lacks 125 inside ≡ true
  pub is : text ≡ inside ++ 125 ∷ rest

-- what `after_brace` answers is right: the rest after the first `}`, or `None` if there is none
abbrev pub BraceSays : List ℕ → Option (List ℕ) → Type 0
BraceSays text None = lacks 125 text ≡ true
BraceSays text (Some rest) = Braced text rest

pub brace_says : (text : List ℕ) → BraceSays text (after_brace text)
brace_says [] = refl
brace_says (c ∷ text) = by_test (eqb c 125) refl (after_brace text) (brace_says text)
  where
    by_rest : eqb c 125 ≡ false → (o : Option (List ℕ)) → BraceSays text o → BraceSays (c ∷ text) o
    by_rest e None h = rw e h
    by_rest e (Some rest) h = record {
      inside = c ∷ h.inside;
      lacks_brace = rw e h.lacks_brace;
      is = ap
          (λ xs. c ∷ xs) h.is;
    }

    by_test : (t : Bool) → eqb c 125 ≡ t → (o : Option (List ℕ)) → BraceSays text o
        → BraceSays (c ∷ text) (cond t (Some text) o)
    by_test true e o h = let is : c ≡ 125 = grind (arith, nat_tests) in
        record { inside = []; lacks_brace = refl; is = ap (λ k. k ∷ text) is }
    by_test false e o h = by_rest e o h
