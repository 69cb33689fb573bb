-- Tokens in lines of at most 79 characters, as full as they can be. Three accounts give the same lines: the definition,
-- whose list has the last line first (`lines_of`); the same from the first line on (lines_are); and the text as it is
-- written, by how many bytes the line begun has so far (all_filled). No other lines hold these tokens and are full
-- (only_lines).
use mathlib.Core.List.{reverse_aux}
use Rattle.std.proofs.Common.{◌≡◌, ℕ, ◌+◌, ◌<◌, ◌≤◌, Bool, true, false, cond, eqb, leb, List, [], ◌∷◌, ◌++◌, length, map, reverse, refl, sym, ap, subst, ◌∙◌, append_assoc, arith, le-leb, flat_map, fold, append-nil, length-append}
use Rattle.std.proofs.lemmas.Bool.Decides.{nat_tests}
use Rattle.pgn_writer.specs.{Written.ended, Written.with_token, Written.lines_of, PgnText.line_text, PgnText.AreFullLines, laws.Layout.AreShort}
use Rattle.pgn_writer.specs.shared.Lines.{lines_from, lines_begun, line_close, wrapped_token, next_column}

-- ---- the last line first, and the first line first

-- more tokens `ts`, where so far the last line is `line`, and `earlier` has the lines before it, the last one first
lines_on : (ts : List (List ℕ)) (line : List ℕ) (earlier : List (List ℕ))
    → reverse (fold with_token (line ∷ earlier) ts) ≡ reverse_aux earlier (lines_from line ts)
lines_on [] line earlier = refl
lines_on (t ∷ ts) line earlier =
    by_test (leb (length (line ++ 32 ∷ t)) 79) (lines_on ts (line ++ 32 ∷ t) earlier) (lines_on ts t (line ∷ earlier))
  where
    by_test : (b : Bool)
        → reverse (fold with_token ((line ++ 32 ∷ t) ∷ earlier) ts)
        ≡ reverse_aux earlier (lines_from (line ++ 32 ∷ t) ts)
        → reverse (fold with_token (t ∷ line ∷ earlier) ts) ≡ reverse_aux (line ∷ earlier) (lines_from t ts)
        → reverse (fold with_token (cond b ((line ++ 32 ∷ t) ∷ earlier) (t ∷ line ∷ earlier)) ts)
        ≡ reverse_aux earlier (cond b (lines_from (line ++ 32 ∷ t) ts) (line ∷ lines_from t ts))
    by_test true here next = here
    by_test false here next = next

-- the definition's lines are those that are filled from the first one on
pub lines_are : (tokens : List (List ℕ)) → lines_of tokens ≡ lines_begun tokens
lines_are [] = refl
lines_are (t ∷ ts) = lines_on ts t []

-- ---- as they are written

-- the text of these tokens, each line after `prefix`, where the line that is begun has `column` bytes so far (0: none
-- is begun)
abbrev pub filled_from : List ℕ → ℕ → List (List ℕ) → List ℕ
filled_from prefix column [] = line_close column
filled_from prefix column (t ∷ ts) = wrapped_token prefix column t ++ filled_from prefix (next_column column t) ts

-- what is written from a begun line on, with the line itself before it, is the text of the lines from that line on; by
-- induction on the tokens left
line_filled : (prefix line : List ℕ) (ts : List (List ℕ)) → 0 < length line → AreShort ts
    → prefix ++ (line ++ filled_from prefix (length line) ts) ≡ ended prefix (lines_from line ts)
line_filled prefix line [] some short =
    let e : eqb (length line) 0 ≡ false = grind (arith, nat_tests) in
    rw e (sym (append_assoc prefix line (10 ∷ [])) ∙ sym (append-nil (prefix ++ line ++ 10 ∷ [])))
line_filled prefix line (t ∷ ts) some short =
    let e : eqb (length line) 0 ≡ false = grind (arith, nat_tests) in
    let len : length (line ++ 32 ∷ t) ≡ length line + 1 + length t = omega (arith, length-append line (32 ∷ t)) in
    rw (e, len) (by_test (leb (length line + 1 + length t) 79)
    (ap (λ n. prefix ++ ((line ++ 32 ∷ t) ++ filled_from prefix n ts)) (sym len)
    ∙ line_filled prefix (line ++ 32 ∷ t) ts (omega (arith, len)) short.1)
    (line_filled prefix t ts short.0.0 short.1))
  where
    by_test : (b : Bool)
        → prefix ++ ((line ++ 32 ∷ t) ++ filled_from prefix (length line + 1 + length t) ts)
        ≡ ended prefix (lines_from (line ++ 32 ∷ t) ts)
        → prefix ++ (t ++ filled_from prefix (length t) ts) ≡ ended prefix (lines_from t ts)
        → prefix ++ (line ++ (cond b (32 ∷ t) (10 ∷ prefix ++ t)
        ++ filled_from prefix (cond b (length line + 1 + length t) (length t)) ts))
        ≡ ended prefix (cond b (lines_from (line ++ 32 ∷ t) ts) (line ∷ lines_from t ts))
    by_test true here next =
        ap (λ xs. prefix ++ xs) (sym (append_assoc line (32 ∷ t) (filled_from prefix (length line + 1 + length t) ts)))
        ∙ here
    by_test false here next =
        let more : List ℕ = filled_from prefix (length t) ts in
        let regroup : prefix ++ (line ++ ((10 ∷ prefix ++ t) ++ more))
        ≡ (prefix ++ line ++ 10 ∷ []) ++ (prefix ++ (t ++ more)) = simp append_assoc in
        regroup ∙ ap (λ xs. (prefix ++ line ++ 10 ∷ []) ++ xs) next

-- what is written for all tokens, if no line is begun before, is the text of the definition's lines
pub all_filled : (prefix : List ℕ) (ts : List (List ℕ)) → AreShort ts
    → filled_from prefix 0 ts ≡ ended prefix (lines_of ts)
all_filled prefix [] short = refl
all_filled prefix (t ∷ ts) short =
    append_assoc prefix t (filled_from prefix (length t) ts) ∙ line_filled prefix t ts short.0.0 short.1
    ∙ ap (ended prefix) (sym (lines_are (t ∷ ts)))

-- ---- the lines as lists of tokens

-- a token at the end of a line that has tokens comes after a space
pub line_text-push : (t : List ℕ) (ts : List (List ℕ)) (u : List ℕ)
    → line_text (t ∷ ts ++ u ∷ []) ≡ line_text (t ∷ ts) ++ 32 ∷ u
line_text-push t [] u = refl
line_text-push t (s ∷ ts) u = ap (λ text. t ++ 32 ∷ text) (line_text-push s ts u)
    ∙ sym (append_assoc t (32 ∷ line_text (s ∷ ts)) (32 ∷ u))

-- ---- no other lines are full and hold these tokens

-- the text of tokens that come after others in a line, each after a space
abbrev tail : List (List ℕ) → List ℕ
tail ts = flat_map (λ u. 32 ∷ u) ts

line_text-tail : (t : List ℕ) (ts : List (List ℕ)) → line_text (t ∷ ts) ≡ t ++ tail ts
line_text-tail t [] = sym (append-nil t)
line_text-tail t (s ∷ ts) = ap (λ text. t ++ 32 ∷ text) (line_text-tail s ts)

-- a line goes on as long as its tokens fit
goes_on : (line : List ℕ) (ts rest : List (List ℕ)) → length (line ++ tail ts) ≤ 79
    → lines_from line (ts ++ rest) ≡ lines_from (line ++ tail ts) rest
goes_on line [] rest h = ap (λ l. lines_from l rest) (sym (append-nil line))
goes_on line (u ∷ ts) rest h =
    let group : (line ++ 32 ∷ u) ++ tail ts ≡ line ++ tail (u ∷ ts) = append_assoc line (32 ∷ u) (tail ts) in
    let few : length ((line ++ 32 ∷ u) ++ tail ts) ≤ 79 = rw group h in
    let fits : leb (length (line ++ 32 ∷ u)) 79 ≡ true =
    le-leb _ _ (omega (arith, few, length-append (line ++ 32 ∷ u) (tail ts))) in
    ap (λ b. cond b (lines_from (line ++ 32 ∷ u) (ts ++ rest)) (line ∷ lines_from u (ts ++ rest))) fits
    ∙ goes_on (line ++ 32 ∷ u) ts rest few ∙ ap (λ l. lines_from l rest) group

-- full lines, the first of which begins with the token u, are the lines that their tokens fill
full_lines : (u : List ℕ) (us : List (List ℕ)) (lines : List (List (List ℕ))) → AreFullLines ((u ∷ us) ∷ lines)
    → lines_from u (us ++ flat_map (λ l. l) lines) ≡ map line_text ((u ∷ us) ∷ lines)
full_lines u us [] h =
    goes_on u us [] (subst (λ l. length l ≤ 79) (line_text-tail u us) h.short.0)
    ∙ ap (λ l. l ∷ []) (sym (line_text-tail u us))
full_lines u us ([] ∷ lines) h = absurd (omega (arith, h.some.1.0))
full_lines u us ((v ∷ vs) ∷ lines) h =
    let line : List ℕ = line_text (u ∷ us) in
    let more : List (List ℕ) = vs ++ flat_map (λ l. l) lines in
    let over : 79 < length (line ++ 32 ∷ v) =
    subst (λ l. 79 < length l) (line_text-push u us v) (h.full [] lines (u ∷ us) vs v refl) in
    let full : leb (length (line ++ 32 ∷ v)) 79 ≡ false = grind (arith, nat_tests, over) in
    goes_on u us (v ∷ more) (subst (λ l. length l ≤ 79) (line_text-tail u us) h.short.0)
    ∙ ap (λ l. lines_from l (v ∷ more)) (sym (line_text-tail u us))
    ∙ ap (λ b. cond b (lines_from (line ++ 32 ∷ v) more) (line ∷ lines_from v more)) full
    ∙ ap (λ xs. line ∷ xs) (full_lines v vs lines (record {
      some = h.some.1;
      short = h.short.1;
      full = λ before after l rest token is. h.full ((u ∷ us) ∷ before) after l rest token
          (ap (λ xs. (u ∷ us) ∷ xs) is);
    }))

-- lines that are as full as they can be are the definition's lines of their tokens
pub only_lines : (lines : List (List (List ℕ))) → AreFullLines lines
    → map line_text lines ≡ lines_of (flat_map (λ l. l) lines)
only_lines [] h = refl
only_lines ([] ∷ lines) h = absurd (omega (arith, h.some.0))
only_lines ((u ∷ us) ∷ lines) h = sym (lines_are (u ∷ (us ++ flat_map (λ l. l) lines)) ∙ full_lines u us lines h)
