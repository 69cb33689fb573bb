-- Variations: a text that may be inside one by the relation `IsInside` is read over up to its `)` (inside_read), and an
-- unclosed comment in it is reported (open_read): by induction on the relation. The other way round, by induction on
-- the text, what is read closes the variations by the relation, or shows one that isn't closed (leaves). `suc d` counts
-- the variations open.
use Rattle.std.proofs.Common.{◌≡◌, ℕ, zero, suc, ◌≤◌, Bool, true, false, not, eqb, List, [], ◌∷◌, ◌++◌, length, Option, Some, None, refl, sym, ap, subst, ◌∙◌, inl, inr, ◌⊎◌, arith, append_assoc, length-append}
use Rattle.std.specs.List.{list_any}
use Rattle.std.proofs.{lemmas.Bool.or_parts, lemmas.Bool.Decides.nat_tests}
use Rattle.pgn_tokens.specs.Tokens.{Token, Skip, Unclosed_comment, Unclosed_variation, line_end, after_brace, variation_at}
use Rattle.pgn_tokens.proofs.VariationParts.{by_part, part_then}
use Rattle.pgn_tokens.specs.Split.{lacks, skips_line, IsInside, nothing, line, comment, variation, other, HasOpenComment, here, deeper}
use Rattle.pgn_tokens.proofs.ByteRuns.{differs, run_drop, LineSays, unended, line_then, line_says, brace_found, brace_missing, BraceSays, brace_says}

-- ---- one part

-- whether a line begins before a byte matters only if it is `%` (byte 37)
pub flag_free : (b : Bool) (d c : ℕ) (rest : List ℕ) → eqb c 37 ≡ false
    → variation_at None b (suc d) (c ∷ rest) ≡ variation_at None false (suc d) (c ∷ rest)
flag_free true d c rest e = rw e refl
flag_free false d c rest e = refl

-- a byte that begins a skipped line is no byte that doesn't
pub skip_differs : (b : Bool) (c k : ℕ) → skips_line b c ≡ true → skips_line true k ≡ false → eqb c k ≡ false
skip_differs true c k h e = differs (skips_line true) c k h e
skip_differs false c k h e = differs (skips_line false) c k h (or_parts (eqb k 37) (eqb k 59) e).1

-- a line that is skipped
skipped : (b : Bool) (d c : ℕ) (rest : List ℕ) → skips_line b c ≡ true
    → variation_at None b (suc d) (c ∷ rest) ≡ variation_at None false (suc d) (line_end rest)
skipped b d c rest h =
    let opens : eqb c 40 ≡ false = skip_differs b c 40 h refl in
    let closes : eqb c 41 ≡ false = skip_differs b c 41 h refl in
    let ends : eqb c 10 ≡ false = skip_differs b c 10 h refl in
    by_part b d c rest ∙ rw (h, opens, closes, ends) refl

-- the first line ends at its `\n` (byte 10)
pub line_end_is : (text more : List ℕ) → lacks 10 text ≡ true → line_end (text ++ 10 ∷ more) ≡ 10 ∷ more
line_end_is text more h = run_drop (λ c. not (eqb c 10)) text (10 ∷ more) h refl

-- a byte that is passed over
passed : (b : Bool) (d c : ℕ) (rest : List ℕ) → skips_line b c ≡ false
    → list_any (λ k. eqb c k) (123 ∷ 40 ∷ 41 ∷ []) ≡ false
    → variation_at None b (suc d) (c ∷ rest) ≡ variation_at None (eqb c 10) (suc d) rest
passed b d c rest h none =
    let first = or_parts (eqb c 123) _ none in
    let second = or_parts (eqb c 40) _ first.1 in
    let third = or_parts (eqb c 41) _ second.1 in
    rw (h, first.0, second.0, third.0) refl

-- ---- from the relation to the reader

-- the inside of a variation is read over; the byte after it, as it is no `%`, is read as within a line
pub inside_read : {b : Bool} {text : List ℕ} → IsInside b text → (d c : ℕ) (rest : List ℕ) → eqb c 37 ≡ false
    → variation_at None b (suc d) (text ++ c ∷ rest) ≡ variation_at None false (suc d) (c ∷ rest)
inside_read {b} nothing d c rest e = flag_free b d c rest e
inside_read (line {b} {c = k} text {more} h lack r) d c rest e =
    let tail : List ℕ = more ++ c ∷ rest in
    ap (λ xs. variation_at None b (suc d) (k ∷ xs)) (append_assoc text (10 ∷ more) (c ∷ rest))
    ∙ skipped b d k (text ++ 10 ∷ tail) h
    ∙ ap (variation_at None false (suc d)) (line_end_is text tail lack)
    ∙ inside_read r d c rest e
inside_read (comment {b} text {more} lack r) d c rest e =
    let tail : List ℕ = more ++ c ∷ rest in
    ap (λ xs. variation_at None b (suc d) (123 ∷ xs)) (append_assoc text (125 ∷ more) (c ∷ rest))
    ∙ flag_free b d 123 (text ++ 125 ∷ tail) refl
    ∙ by_part false d 123 (text ++ 125 ∷ tail)
    ∙ ap (λ o. part_then (suc (length (text ++ 125 ∷ tail))) false o (Some d)) (brace_found text tail lack)
    ∙ inside_read r d c rest e
inside_read (variation {b} {inner} {more} i r) d c rest e =
    let tail : List ℕ = more ++ c ∷ rest in
    ap (λ xs. variation_at None b (suc d) (40 ∷ xs)) (append_assoc inner (41 ∷ more) (c ∷ rest))
    ∙ flag_free b d 40 (inner ++ 41 ∷ tail) refl
    ∙ inside_read i (suc d) 41 tail refl
    ∙ inside_read r d c rest e
inside_read (other {b} {c = k} {more} h none r) d c rest e =
    passed b d k (more ++ c ∷ rest) h none ∙ inside_read r d c rest e

-- a comment that isn't closed is the fault read, however many variations are open
pub open_read : {text : List ℕ} {n : ℕ} → HasOpenComment text n → (d : ℕ)
    → variation_at None false (suc d) text ≡ (Unclosed_comment n, [])
open_read (here {parts} text h lack) d =
    inside_read h d 123 text refl ∙ by_part false d 123 text
    ∙ ap (λ o. part_then (suc (length text)) false o (Some d)) (brace_missing text lack)
open_read (deeper {parts} {inner} {to_end} h k) d = inside_read h d 40 inner refl ∙ open_read k (suc d)

-- ---- from the reader to the relation

-- the inside of a variation up to some place between its parts, or between those of a variation in it that isn't closed
pub data IsBegun : Bool → List ℕ → Type 0 where
  inside : {b : Bool} {text : List ℕ} → IsInside b text → IsBegun b text
  opened : {b : Bool} {text more : List ℕ} → IsInside b text → IsBegun false more → IsBegun b (text ++ 40 ∷ more)

-- if a comment without an end begins there, it is not closed
pub open_comment : {text : List ℕ} → IsBegun false text → (rest : List ℕ) → lacks 125 rest ≡ true
    → HasOpenComment (text ++ 123 ∷ rest) (suc (length rest))
open_comment (inside h) rest lack = here rest h lack
open_comment (opened {text} {more} h k) rest lack =
    subst (λ xs. HasOpenComment xs (suc (length rest))) (sym (append_assoc text (40 ∷ more) (123 ∷ rest)))
    (deeper h (open_comment k rest lack))

-- the text, from inside so many variations and one more, closes them all, and `rest` follows
abbrev pub Closes : ℕ → Bool → List ℕ → List ℕ → Type 0
Closes zero b text rest = (front : List ℕ) × IsInside b front × (text ≡ front ++ 41 ∷ rest)
Closes (suc d) b text rest =
    (front : List ℕ) × (more : List ℕ) × IsInside b front × (text ≡ front ++ 41 ∷ more) × Closes d false more rest

-- the text, from inside so many variations and one more, doesn't close them all
abbrev pub Opens : ℕ → Bool → List ℕ → Type 0
Opens zero b text = IsBegun b text
Opens (suc d) b text = IsBegun b text ⊎ ((front : List ℕ) × (more : List ℕ) × IsInside b front
    × (text ≡ front ++ 41 ∷ more) × Opens d false more)

-- what is read of a text inside `d` variations and one more: it closes them all; or a comment in it isn't closed; or
-- one of the variations isn't, of which nothing more is said here
pub data Leaves (d : ℕ) (b : Bool) (text : List ℕ) : Token × List ℕ → Type 0 where
  closed : {rest : List ℕ} → Closes d b text rest → Leaves d b text (Skip, rest)
  commented : (front rest : List ℕ) → text ≡ front ++ 123 ∷ rest → Opens d b front → lacks 125 rest ≡ true
      → Leaves d b text (Unclosed_comment (suc (length rest)), [])
  unclosed : Leaves d b text (Unclosed_variation, [])

-- a part (such as a byte or a comment) in front of more of a variation's inside changes none of this
module _ (b after : Bool) (part : List ℕ) (add : (m : List ℕ) → IsInside after m → IsInside b (part ++ m)) where
  begun_more : (text : List ℕ) → IsBegun after text → IsBegun b (part ++ text)
  begun_more text (inside h) = inside (add text h)
  begun_more all (opened {text} {more} h k) =
      subst (IsBegun b) (append_assoc part text (40 ∷ more)) (opened (add text h) k)

  closes_more : (d : ℕ) (text rest : List ℕ) → Closes d after text rest → Closes d b (part ++ text) rest
  closes_more zero text rest h =
      (part ++ h.0, add h.0 h.1, ap (λ xs. part ++ xs) h.2 ∙ sym (append_assoc part h.0 (41 ∷ rest)))
  closes_more (suc d) text rest h =
      (part ++ h.0, h.1, add h.0 h.2, ap (λ xs. part ++ xs) h.3 ∙ sym (append_assoc part h.0 (41 ∷ h.1)), h.4)

  opens_more : (d : ℕ) (text : List ℕ) → Opens d after text → Opens d b (part ++ text)
  opens_more zero text h = begun_more text h
  opens_more (suc d) text (inl h) = inl (begun_more text h)
  opens_more (suc d) text (inr h) =
      inr (part ++ h.0, h.1, add h.0 h.2, ap (λ xs. part ++ xs) h.3 ∙ sym (append_assoc part h.0 (41 ∷ h.1)), h.4)

  leaves_more : (d : ℕ) (text : List ℕ) (t : Token × List ℕ) → Leaves d after text t → Leaves d b (part ++ text) t
  leaves_more d text t (closed {rest} h) = closed (closes_more d text rest h)
  leaves_more d text t (commented front rest is h lack) =
      commented (part ++ front) rest
      (ap (λ xs. part ++ xs) is ∙ sym (append_assoc part front (123 ∷ rest))) (opens_more d front h) lack
  leaves_more d text t unclosed = unclosed

-- a `(` in front opens one variation more
leaves_opened : (d : ℕ) (b : Bool) (text : List ℕ) (t : Token × List ℕ) → Leaves (suc d) false text t
    → Leaves d b (40 ∷ text) t
leaves_opened d b text t (closed {rest} h) =
    closed (subst (λ xs. Closes d b xs rest)
    (ap (λ xs. 40 ∷ xs) (append_assoc h.0 (41 ∷ []) h.1 ∙ sym h.3))
    (closes_more b false (40 ∷ (h.0 ++ 41 ∷ []))
    (λ m i. subst (IsInside b) (ap (λ xs. 40 ∷ xs) (sym (append_assoc h.0 (41 ∷ []) m))) (variation h.2 i))
    d h.1 rest h.4))
leaves_opened d b text t (commented front rest is h lack) = commented (40 ∷ front) rest (ap (λ xs. 40 ∷ xs) is)
    (by_open h) lack
  where
    at_depth : (d : ℕ) → IsBegun b (40 ∷ front) → Opens d b (40 ∷ front)
    at_depth zero k = k
    at_depth (suc d) k = inl k

    by_open : Opens (suc d) false front → Opens d b (40 ∷ front)
    by_open (inl k) = at_depth d (opened nothing k)
    by_open (inr k) =
        subst (Opens d b) (ap (λ xs. 40 ∷ xs) (append_assoc k.0 (41 ∷ []) k.1 ∙ sym k.3))
        (opens_more b false (40 ∷ (k.0 ++ 41 ∷ []))
        (λ m i. subst (IsInside b) (ap (λ xs. 40 ∷ xs) (sym (append_assoc k.0 (41 ∷ []) m))) (variation k.2 i))
        d k.1 k.4)
leaves_opened d b text t unclosed = unclosed

-- a `)` in front closes one
leaves_closed : (d : ℕ) (b : Bool) (text : List ℕ) (t : Token × List ℕ) → Leaves d false text t
    → Leaves (suc d) b (41 ∷ text) t
leaves_closed d b text t (closed {rest} h) = closed ([], text, nothing, refl, h)
leaves_closed d b text t (commented front rest is h lack) =
    commented (41 ∷ front) rest (ap (λ xs. 41 ∷ xs) is) (inr ([], front, nothing, refl, h)) lack
leaves_closed d b text t unclosed = unclosed

-- what is read of a text inside variations is right by the relation; by induction on the text's length, up to n
pub leaves : (n : ℕ) (b : Bool) (d : ℕ) (text : List ℕ) → length text ≤ n
    → Leaves d b text (variation_at None b (suc d) text)
leaves n b d [] few = unclosed
leaves zero b d (c ∷ rest) few = absurd (omega (arith, few))
leaves (suc n) b d (c ∷ rest) few =
    by_line (λ f m u fewer. leaves n f m u fewer) (skips_line b c) refl
  where
    Again : Type 0
    Again = (f : Bool) (m : ℕ) (u : List ℕ) → length u ≤ n → Leaves m f u (variation_at None f (suc m) u)

    Goal : Type 0
    Goal = Leaves d b (c ∷ rest) (variation_at None b (suc d) (c ∷ rest))

    after_line : skips_line b c ≡ true → (end : List ℕ) → LineSays rest end
        → ((u : List ℕ) → length u ≤ n → (f : Bool) → Leaves d f u (variation_at None f (suc d) u))
        → Leaves d b (c ∷ rest) (variation_at None false (suc d) end)
    after_line h end unended again = unclosed
    after_line h end (line_then body tail lack same) again =
        let fewer : length tail ≤ n = omega (arith, few, simp length-append at (ap length same)) in
        let inner : Leaves d true tail (variation_at None true (suc d) tail) = again tail fewer true in
        subst (λ xs. Leaves d b xs (variation_at None true (suc d) tail))
        (ap (λ xs. c ∷ xs) (append_assoc body (10 ∷ []) tail ∙ sym same))
        (leaves_more b true (c ∷ (body ++ 10 ∷ []))
        (λ m i. subst (IsInside b) (ap (λ xs. c ∷ xs) (sym (append_assoc body (10 ∷ []) m))) (line body h lack i))
        d tail (variation_at None true (suc d) tail) inner)

    by_brace : c ≡ 123 → (o : Option (List ℕ)) → BraceSays rest o
        → ((u : List ℕ) → length u ≤ n → (f : Bool) → Leaves d f u (variation_at None f (suc d) u))
        → Leaves d b (c ∷ rest) (part_then (suc (length rest)) false o (Some d))
    by_brace e None lack more = subst (λ k. Leaves d b (k ∷ rest) (Unclosed_comment (suc (length rest)), [])) (sym e)
        (commented [] rest refl (at_once d) lack)
      where
        at_once : (d : ℕ) → Opens d b []
        at_once zero = inside nothing
        at_once (suc d) = inl (inside nothing)
    by_brace e (Some end) found more =
        let fewer : length end ≤ n = omega (arith, few, simp length-append at (ap length found.is)) in
        let inner : Leaves d false end (variation_at None false (suc d) end) = more end fewer false in
        subst (λ xs. Leaves d b xs (variation_at None false (suc d) end))
        (ap (λ k. k ∷ ((found.inside ++ 125 ∷ []) ++ end)) (sym e)
        ∙ ap (λ xs. c ∷ xs) (append_assoc found.inside (125 ∷ []) end ∙ sym found.is))
        (leaves_more b false (123 ∷ (found.inside ++ 125 ∷ []))
        (λ m i. subst (IsInside b) (ap (λ xs. 123 ∷ xs) (sym (append_assoc found.inside (125 ∷ []) m)))
        (comment found.inside found.lacks_brace i))
        d end (variation_at None false (suc d) end) inner)

    by_depth : (m : ℕ) → ((d : ℕ) → Leaves d false rest (variation_at None false (suc d) rest))
        → Leaves m b (41 ∷ rest) (variation_at None false m rest)
    by_depth zero more = closed ([], nothing, refl)
    by_depth (suc m) more = leaves_closed m b rest _ (more m)

    by_closing : Again → (t : Bool) → eqb c 41 ≡ t → skips_line b c ≡ false → eqb c 123 ≡ false → eqb c 40 ≡ false
        → Goal
    by_closing again true e skip brace opens =
        let is : c ≡ 41 = grind (arith, nat_tests) in
        subst (λ k. Leaves d b (k ∷ rest) (variation_at None b (suc d) (k ∷ rest))) (sym is)
        (subst (Leaves d b (41 ∷ rest)) (sym (flag_free b d 41 rest refl))
        (by_depth d (λ m. again false m rest (omega (arith, few)))))
    by_closing again false e skip brace opens =
        let none : list_any (λ k. eqb c k) (123 ∷ 40 ∷ 41 ∷ []) ≡ false = rw (brace, opens, e) refl in
        subst (Leaves d b (c ∷ rest)) (sym (passed b d c rest skip none))
        (leaves_more b (eqb c 10) (c ∷ []) (λ m i. other skip none i) d rest _
        (again (eqb c 10) d rest (omega (arith, few))))

    by_opening : Again → (t : Bool) → eqb c 40 ≡ t → skips_line b c ≡ false → eqb c 123 ≡ false → Goal
    by_opening again true e skip brace =
        let is : c ≡ 40 = grind (arith, nat_tests) in
        subst (λ k. Leaves d b (k ∷ rest) (variation_at None b (suc d) (k ∷ rest))) (sym is)
        (subst (Leaves d b (40 ∷ rest)) (sym (flag_free b d 40 rest refl))
        (leaves_opened d b rest _ (again false (suc d) rest (omega (arith, few)))))
    by_opening again false e skip brace = by_closing again (eqb c 41) refl skip brace e

    by_braced : Again → (t : Bool) → eqb c 123 ≡ t → skips_line b c ≡ false → Goal
    by_braced again true e skip =
        let is : c ≡ 123 = grind (arith, nat_tests) in
        subst (Leaves d b (c ∷ rest))
        (sym (ap (λ k. variation_at None b (suc d) (k ∷ rest)) is ∙ flag_free b d 123 rest refl
        ∙ by_part false d 123 rest))
        (by_brace is (after_brace rest) (brace_says rest) (λ u fewer f. again f d u fewer))
    by_braced again false e skip = by_opening again (eqb c 40) refl skip e

    by_line : Again → (t : Bool) → skips_line b c ≡ t → Goal
    by_line again true e =
        subst (Leaves d b (c ∷ rest)) (sym (skipped b d c rest e))
        (after_line e (line_end rest) (line_says rest) (λ u fewer f. again f d u fewer))
    by_line again false e = by_braced again (eqb c 123) refl e
