-- Marks (+ # ! ?) at the end of a text, which `unmarked` drops: a text whose last byte is no mark stays as it is
-- (unmarked-solid), and one mark more at the end changes nothing of what is left (unmarked-marked). Both by how many
-- marks are at the end (`suffix_len`).
use Rattle.std.proofs.Common.{◌≡◌, ℕ, ◌+◌, ◌-◌, ◌≤◌, true, false, List, [], ◌∷◌, ◌++◌, length, get_or, take, refl, sym, ap, ◌∙◌, arith, length-append}
use Rattle.std.proofs.{Math.Seq.take-length, Math.Seq.take-append_seam, lemmas.List.take-append-le, lemmas.List.Sums.suffix_len-take_yes, lemmas.List.Sums.suffix_len-take_no, lemmas.List.Sums.suffix_len-le-length}
use Rattle.std.specs.List.{suffix_len}
use Rattle.chess_text.specs.Parts.{is_mark, unmarked}

-- the element after xs is at index length xs, and it is the last
get_or-last : (xs : List ℕ) (c : ℕ) → get_or (xs ++ c ∷ []) (length xs) 0 ≡ c
get_or-last [] c = refl
get_or-last (x ∷ xs) c = get_or-last xs c

last_at : (xs : List ℕ) (c : ℕ) → get_or (xs ++ c ∷ []) (length (xs ++ c ∷ []) - 1) 0 ≡ c
last_at xs c =
    let len : length (xs ++ c ∷ []) ≡ length xs + 1 = length-append xs (c ∷ []) in
    let at : length (xs ++ c ∷ []) - 1 ≡ length xs = omega arith in
    ap (λ i. get_or (xs ++ c ∷ []) i 0) at ∙ get_or-last xs c

-- a text whose last byte is no mark has none
pub unmarked-solid : (xs : List ℕ) (c : ℕ) → is_mark c ≡ false → unmarked (xs ++ c ∷ []) ≡ xs ++ c ∷ []
unfolding unmarked
unmarked-solid xs c e =
    let text = xs ++ c ∷ [] in
    let len : length text ≡ length xs + 1 = length-append xs (c ∷ []) in
    let none : suffix_len is_mark text ≡ 0 =
    ap (suffix_len is_mark) (sym (take-length text)) ∙ suffix_len-take_no is_mark text (length text) 0 (omega arith)
    (omega arith) (ap is_mark (last_at xs c) ∙ e) in
    let all : length text - suffix_len is_mark text ≡ length text = omega arith in
    ap (λ n. take n text) all ∙ take-length text

-- a mark more at the end changes nothing
pub unmarked-marked : (xs : List ℕ) (c : ℕ) → is_mark c ≡ true → unmarked (xs ++ c ∷ []) ≡ unmarked xs
unfolding unmarked
unmarked-marked xs c e =
    let text = xs ++ c ∷ [] in
    let len : length text ≡ length xs + 1 = length-append xs (c ∷ []) in
    let front : take (length text - 1) text ≡ xs =
    (let at : length text - 1 ≡ length xs = omega arith in ap (λ n. take n text) at ∙ take-append_seam xs
    (c ∷ [])) in
    let more : suffix_len is_mark text ≡ 1 + suffix_len is_mark xs =
    ap (suffix_len is_mark) (sym (take-length text)) ∙ suffix_len-take_yes is_mark text (length text) 0 (omega arith)
    (omega arith) (ap is_mark (last_at xs c) ∙ e) ∙ ap (λ v. 1 + suffix_len is_mark v) front in
    let few = suffix_len-le-length is_mark xs in
    let same : length text - suffix_len is_mark text ≡ length xs - suffix_len is_mark xs = omega arith in
    let within : length xs - suffix_len is_mark xs ≤ length xs = omega arith in
    ap (λ n. take n text) same ∙ take-append-le (length xs - suffix_len is_mark xs) xs (c ∷ []) within
