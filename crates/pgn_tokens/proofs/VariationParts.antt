-- For the loop of `after_variation`, which skips a variation part by part: a comment, a skipped line or a byte. The
-- definition goes byte by byte with a state; both read the same after each part (part_is), and the same fault at a
-- comment without its `}` (part_unclosed), by induction on the line or comment that is skipped (in_line, in_brace). A
-- byte opens at most one variation, so `depth` grows by at most one for each (depth_few).
use Rattle.std.proofs.Common.{◌≡◌, ℕ, zero, suc, ◌+◌, ◌-◌, ◌≤◌, Bool, true, false, cond, eqb, List, [], ◌∷◌, length, get_or, take, drop, Option, Some, None, refl, sym, ap, ◌∙◌, inl, inr, add-one, arith, ◌&&◌, ◌||◌}
use Rattle.std.proofs.{lemmas.Bool.Decides.nat_tests, lemmas.Bool.and_parts, lemmas.Bool.or_cases, lemmas.List.take_rest}
use Rattle.pgn_tokens.specs.Tokens.{Token, Unclosed_comment, Unclosed_variation, Skip, line_end, after_brace, variation_at}
use Rattle.pgn_tokens.specs.ties.VariationParts.{after_part, one_fewer, depth_after}
use Rattle.pgn_tokens.proofs.Skipped.{line_end-more}

-- inside a skipped line the definition goes on at the line's end
in_line : (begins : Bool) (depth : ℕ) (text : List ℕ)
    → variation_at (Some (10, Unclosed_variation)) begins (suc depth) text
    ≡ variation_at None false (suc depth) (line_end text)
in_line begins depth [] = refl
in_line begins depth (c ∷ rest) = by_test (eqb c 10) refl (in_line false depth rest)
  where
    by_test : (t : Bool) → eqb c 10 ≡ t
        → variation_at (Some (10, Unclosed_variation)) false (suc depth) rest
        ≡ variation_at None false (suc depth) (line_end rest)
        → variation_at (Some (10, Unclosed_variation)) begins (suc depth) (c ∷ rest)
        ≡ variation_at None false (suc depth) (line_end (c ∷ rest))
    by_test true e more =
        let brace : eqb c 123 ≡ false = grind (arith, nat_tests) in
        let rest_line : eqb c 59 ≡ false = grind (arith, nat_tests) in
        let opens : eqb c 40 ≡ false = grind (arith, nat_tests) in
        let closes : eqb c 41 ≡ false = grind (arith, nat_tests) in
        rw (e, rest_line, brace, opens, closes, e) refl
    by_test false e more =
        ap (λ t. variation_at (cond t None (Some (10, Unclosed_variation))) t (suc depth) rest) e ∙ more
        ∙ ap (variation_at None false (suc depth)) (sym (line_end-more c rest e))

-- where to go on after a comment: the text after its `}`, or the fault if there is none
abbrev unless_open : ℕ → ℕ → Option (List ℕ) → Token × List ℕ
unless_open left depth None = (Unclosed_comment left, [])
unless_open left depth (Some rest) = variation_at None false (suc depth) rest

-- inside a comment the definition goes on after its `}`
in_brace : (left : ℕ) (begins : Bool) (depth : ℕ) (text : List ℕ)
    → variation_at (Some (125, Unclosed_comment left)) begins (suc depth) text
    ≡ unless_open left depth (after_brace text)
in_brace left begins depth [] = refl
in_brace left begins depth (c ∷ rest) = by_test (eqb c 125) refl (in_brace left (eqb c 10) depth rest)
  where
    by_test : (t : Bool) → eqb c 125 ≡ t
        → variation_at (Some (125, Unclosed_comment left)) (eqb c 10) (suc depth) rest
        ≡ unless_open left depth (after_brace rest)
        → variation_at (cond t None (Some (125, Unclosed_comment left))) (eqb c 10) (suc depth) rest
        ≡ unless_open left depth (cond t (Some rest) (after_brace rest))
    by_test true e more =
        let ends : eqb c 10 ≡ false = grind (arith, nat_tests) in
        ap (λ b. variation_at None b (suc depth) rest) ends
    by_test false e more = more

-- what is read after a part that leaves this text (`None`: its comment isn't closed), with so many variations open
-- (`None`: the outermost one is closed)
abbrev pub part_then : ℕ → Bool → Option (List ℕ) → Option ℕ → Token × List ℕ
part_then left begins None inner = (Unclosed_comment left, [])
part_then left begins (Some rest) None = (Skip, rest)
part_then left begins (Some rest) (Some depth) = variation_at None begins (suc depth) rest

by_brace : (left depth : ℕ) (o : Option (List ℕ)) → unless_open left depth o ≡ part_then left false o (Some depth)
by_brace left depth None = refl
by_brace left depth (Some rest) = refl

by_close : (left depth : ℕ) (rest : List ℕ) → variation_at None false depth rest ≡ part_then left false (Some rest)
    (one_fewer depth)
by_close left zero rest = refl
by_close left (suc depth) rest = refl

abbrev IsPart : Bool → ℕ → ℕ → List ℕ → Type 0
IsPart begins depth c rest = variation_at None begins (suc depth) (c ∷ rest) ≡ part_then (suc (length rest)) (eqb c 10)
    (after_part begins c rest) (depth_after depth c)

-- a byte that begins a line which is skipped is no other
line_byte : (begins : Bool) (c k : ℕ) → (begins && eqb c 37 || eqb c 59) ≡ true → eqb 37 k ≡ false → eqb 59 k ≡ false
    → eqb c k ≡ false
line_byte begins c k h a b = elim (or_cases (begins && eqb c 37) (eqb c 59) h) [
  | inl e ↦ (let is : eqb c 37 ≡ true = (and_parts begins (eqb c 37) e).1 in grind (arith, nat_tests))
  | inr e ↦ grind (arith, nat_tests)
]

-- the definition at a byte of a variation is the part that begins there, and what is read after it
pub by_part : (begins : Bool) (depth c : ℕ) (rest : List ℕ) → variation_at None begins (suc depth) (c ∷ rest)
    ≡ part_then (suc (length rest)) (eqb c 10) (after_part begins c rest) (depth_after depth c)
by_part begins depth c rest = by_line (begins && eqb c 37 || eqb c 59) refl
  where
    by_closing : (t : Bool) → eqb c 41 ≡ t → (begins && eqb c 37 || eqb c 59) ≡ false → eqb c 123 ≡ false
        → eqb c 40 ≡ false → IsPart begins depth c rest
    by_closing true e line brace opens =
        let ends : eqb c 10 ≡ false = grind (arith, nat_tests) in
        rw (line, brace, opens, e, ends) (by_close (suc (length rest)) depth rest)
    by_closing false e line brace opens = rw (line, brace, opens, e) refl

    by_opening : (t : Bool) → eqb c 40 ≡ t → (begins && eqb c 37 || eqb c 59) ≡ false → eqb c 123 ≡ false
        → IsPart begins depth c rest
    by_opening true e line brace =
        let ends : eqb c 10 ≡ false = grind (arith, nat_tests) in
        rw (line, brace, e, ends, add-one) refl
    by_opening false e line brace = by_closing (eqb c 41) refl line brace e

    by_opening_brace : (t : Bool) → eqb c 123 ≡ t → (begins && eqb c 37 || eqb c 59) ≡ false
        → IsPart begins depth c rest
    by_opening_brace true e line =
        let ends : eqb c 10 ≡ false = grind (arith, nat_tests) in
        let opens : eqb c 40 ≡ false = grind (arith, nat_tests) in
        let closes : eqb c 41 ≡ false = grind (arith, nat_tests) in
        rw (line, e, opens, closes, ends)
        (in_brace (suc (length rest)) false depth rest ∙ by_brace (suc (length rest)) depth (after_brace rest))
    by_opening_brace false e line = by_opening (eqb c 40) refl line e

    by_line : (t : Bool) → (begins && eqb c 37 || eqb c 59) ≡ t → IsPart begins depth c rest
    by_line true e =
        rw (e, line_byte begins c 40 e refl refl, line_byte begins c 41 e refl refl, line_byte begins c 10 e refl refl)
        (in_line false depth rest)
    by_line false e = by_opening_brace (eqb c 123) refl e

-- the same for a text given as the code has it, by its first byte and the others
part_first : (begins : Bool) (depth : ℕ) (xs : List ℕ) → 1 ≤ length xs → variation_at None begins (suc depth) xs
    ≡ part_then (length xs) (eqb (get_or xs 0 0) 10)
    (after_part begins (get_or xs 0 0) (take (length xs - 1) (drop 1 xs))) (depth_after depth (get_or xs 0 0))
part_first begins depth [] h = absurd (omega (arith, h))
part_first begins depth (c ∷ rest) h =
    by_part begins depth c rest
    ∙ ap (λ text. part_then (suc (length rest)) (eqb c 10) (after_part begins c text) (depth_after depth c))
    (sym (take_rest (c ∷ rest) 1))

-- a comment in the variation has no end, so the fault is read
pub part_unclosed : (begins : Bool) (depth : ℕ) (xs : List ℕ) → 1 ≤ length xs
    → None ≡ after_part begins (get_or xs 0 0) (take (length xs - 1) (drop 1 xs))
    → variation_at None begins (suc depth) xs ≡ (Unclosed_comment (length xs), [])
part_unclosed begins depth xs h part =
    part_first begins depth xs h
    ∙ ap (λ o. part_then (length xs) (eqb (get_or xs 0 0) 10) o (depth_after depth (get_or xs 0 0))) (sym part)

-- a part, after which the outermost variation is closed, or still open
pub part_is : (begins : Bool) (depth : ℕ) (xs rest : List ℕ) (inner : Option ℕ) → 1 ≤ length xs
    → Some rest ≡ after_part begins (get_or xs 0 0) (take (length xs - 1) (drop 1 xs))
    → inner ≡ depth_after depth (get_or xs 0 0) → variation_at None begins (suc depth) xs ≡ part_then (length xs)
    (eqb (get_or xs 0 0) 10) (Some rest) inner
part_is begins depth xs rest inner h part is =
    part_first begins depth xs h
    ∙ ap (λ o. part_then (length xs) (eqb (get_or xs 0 0) 10) o (depth_after depth (get_or xs 0 0))) (sym part)
    ∙ ap (part_then (length xs) (eqb (get_or xs 0 0) 10) (Some rest)) (sym is)

-- a byte opens at most one
pub depth_few : (depth c inner : ℕ) → Some inner ≡ depth_after depth c → inner ≤ depth + 1
depth_few depth c inner is = by_tests (eqb c 40) (eqb c 41) depth is
  where
    by_tests : (opens closes : Bool) (depth : ℕ)
        → Some inner ≡ cond opens (Some (depth + 1)) (cond closes (one_fewer depth) (Some depth)) → inner ≤ depth + 1
    by_tests true closes depth is = let e : inner ≡ depth + 1 = cc in omega arith
    by_tests false true zero is = absurd (cc)
    by_tests false true (suc depth) is = let e : inner ≡ depth = cc in omega arith
    by_tests false false depth is = let e : inner ≡ depth = cc in omega arith
