-- The quote that closes a string, found from mark to mark, a mark being a quote or a backslash. Other bytes close
-- nothing (quote_after_mark), a quote closes the string (closed), and after a backslash the next byte doesn't
-- (kept_on), and the text left is shorter (shorter_on). By induction on the text.
use Rattle.std.proofs.Common.{◌≡◌, ◌<◌, ℕ, suc, ◌+◌, Bool, true, false, not, ◌&&◌, ◌||◌, ◌==◌, List, [], ◌∷◌, length, take, drop, cond, codes, bytes_eq, refl, sym, ap, ◌∙◌, arith, length-drop, if◌then◌else◌}
use Rattle.std.specs.List.{list_all, position_or_len}
use Rattle.std.proofs.lemmas.Bool.Decides.{nat_tests}
use Rattle.pgn_pieces.specs.{Pieces.from_quote, ties.Fronts.from_mark}

abbrev is_mark : ℕ → Bool
is_mark c = c == 34 || (c == 92 || c == 92)

-- whether a text begins with a mark, if it isn't empty
abbrev pub begins_with_mark : List ℕ → Bool
begins_with_mark text = list_all is_mark (take 1 text)

-- ---- up to the first mark

stopped : (c : ℕ) (rest : List ℕ) → is_mark c ≡ true → from_mark (c ∷ rest) ≡ c ∷ rest
stopped c rest mark = ap (λ b. drop (cond (not b) (1 + position_or_len is_mark rest) 0) (c ∷ rest)) mark

passed : (c : ℕ) (rest : List ℕ) → is_mark c ≡ false → from_mark (c ∷ rest) ≡ from_mark rest
passed c rest none =
    ap (λ b. drop (cond (not b) (1 + position_or_len is_mark rest) 0) (c ∷ rest)) none
    ∙ ap (λ n. drop n (c ∷ rest)) (one_more (position_or_len is_mark rest))
  where
    one_more : (n : ℕ) → 1 + n ≡ suc n
    one_more n = omega arith

not_closed : (c : ℕ) (rest : List ℕ) → is_mark c ≡ false → from_quote false (c ∷ rest) ≡ from_quote false rest
not_closed c rest none = by_tests (c == 34) (c == 92) refl refl
  where
    by_tests : (quote slash : Bool) → (c == 34) ≡ quote → (c == 92) ≡ slash
        → from_quote false (c ∷ rest) ≡ from_quote false rest
    by_tests true slash q s =
        let no : true ≡ false = sym (ap (λ b. b || (c == 92 || c == 92)) q) ∙ none in absurd (cc)
    by_tests false true q s =
        let no : true ≡ false = sym (ap (λ b. b || (c == 92 || c == 92)) q ∙ ap (λ b. false || (b || b)) s) ∙ none in
        absurd (cc)
    by_tests false false q s =
        ap (λ b. if not false && b then c ∷ rest else from_quote (not false && c == 92) rest) q
        ∙ ap (λ b. from_quote (not false && b) rest) s

pub quote_after_mark : (text : List ℕ) → from_quote false (from_mark text) ≡ from_quote false text
quote_after_mark [] = refl
quote_after_mark (c ∷ rest) = by_test (is_mark c) refl (quote_after_mark rest)
  where
    by_test : (mark : Bool) → is_mark c ≡ mark → from_quote false (from_mark rest) ≡ from_quote false rest
        → from_quote false (from_mark (c ∷ rest)) ≡ from_quote false (c ∷ rest)
    by_test true is on = ap (from_quote false) (stopped c rest is)
    by_test false is on = ap (from_quote false) (passed c rest is) ∙ on ∙ sym (not_closed c rest is)

pub mark_first : (text : List ℕ) → begins_with_mark (from_mark text) ≡ true
mark_first [] = refl
mark_first (c ∷ rest) = by_test (is_mark c) refl (mark_first rest)
  where
    by_test : (mark : Bool) → is_mark c ≡ mark → begins_with_mark (from_mark rest) ≡ true
        → begins_with_mark (from_mark (c ∷ rest)) ≡ true
    by_test true is on = ap begins_with_mark (stopped c rest is) ∙ ap (λ b. b && true) is
    by_test false is on = ap begins_with_mark (passed c rest is) ∙ on

-- ---- at a mark

-- a quote closes the string, and an empty text has none
pub closed : (text : List ℕ) → begins_with_mark text ≡ true → bytes_eq (take 1 text) (codes "\\") ≡ false
    → text ≡ from_quote false text
closed [] mark no_slash = refl
closed (c ∷ rest) mark no_slash = by_tests (c == 34) (c == 92) refl refl
  where
    by_tests : (quote slash : Bool) → (c == 34) ≡ quote → (c == 92) ≡ slash → c ∷ rest ≡ from_quote false (c ∷ rest)
    by_tests true slash q s = sym (ap (λ b. if b then c ∷ rest else from_quote (not false && c == 92) rest) q)
    by_tests false true q s =
        let no : true ≡ false = sym (ap (λ b. b && true) s) ∙ no_slash in absurd (cc)
    by_tests false false q s =
        let no : false ≡ true = sym (ap (λ b. (b || (c == 92 || c == 92)) && true) q
        ∙ ap (λ b. (false || (b || b)) && true) s) ∙ mark in absurd (cc)

second : (kept : List ℕ) → from_quote true kept ≡ from_quote false (drop 1 kept)
second [] = refl
second (d ∷ rest) = refl

-- a backslash keeps the byte after it from closing the string
pub kept_on : (text : List ℕ) → bytes_eq (take 1 text) (codes "\\") ≡ true
    → from_quote false (from_mark (drop 1 (drop 1 text))) ≡ from_quote false text
kept_on [] slash = absurd (cc)
kept_on (c ∷ rest) slash =
    quote_after_mark (drop 1 rest) ∙ sym (second rest) ∙ sym (by_tests (c == 34) (c == 92) refl refl)
  where
    by_tests : (quote slash : Bool) → (c == 34) ≡ quote → (c == 92) ≡ slash
        → from_quote false (c ∷ rest) ≡ from_quote true rest
    by_tests quote false q s =
        let no : false ≡ true = sym (ap (λ b. b && true) s) ∙ slash in absurd (cc)
    by_tests true true q s =
        let is : c ≡ 34 = grind (arith, nat_tests, q) in
        let no : false ≡ true = ap (λ b. b == 92) (sym is) ∙ s in absurd (cc)
    by_tests false true q s =
        ap (λ b. if not false && b then c ∷ rest else from_quote (not false && c == 92) rest) q
        ∙ ap (λ b. from_quote (not false && b) rest) s

pub shorter_on : (text : List ℕ) → bytes_eq (take 1 text) (codes "\\") ≡ true
    → length (from_mark (drop 1 (drop 1 text))) < length text
shorter_on [] slash = absurd (cc)
shorter_on (c ∷ rest) slash =
    let one = length-drop 1 rest in
    let from = length-drop (position_or_len is_mark (drop 1 rest)) (drop 1 rest) in
    omega (arith, one, from)
