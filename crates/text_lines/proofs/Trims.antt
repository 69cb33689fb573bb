-- For `cut_end` and `cut_return`. The definition reverses a text to cut the spaces and tabs at its end. So one as the
-- last byte can be dropped (end_blank), and another last byte keeps the text whole (end_solid); `cut_end` does this at
-- the end of the first i bytes (end_step, end_stop) until none is left (zero_end). A `\r` as the last byte is cut
-- (return_then); without it the text stays whole (return_else).
use Rattle.std.proofs.Common.{◌≡◌, ℕ, ◌+◌, ◌-◌, ◌<◌, ◌≤◌, true, false, List, [], ◌∷◌, ◌++◌, length, get_or, take, refl, sym, ap, ◌∙◌, ◌==◌, ◌≢◌, arith, if◌then◌else◌, reverse}
use Rattle.std.proofs.lemmas.List.{take_more, reverse-append, reverse-reverse}
use Rattle.text_lines.specs.Lines.{without_front_blanks, without_end_blanks, without_return}
use Rattle.byte_devices.specs.Bytes.{is_blank}

pub end_blank : (xs : List ℕ) (b : ℕ) → is_blank b ≡ true → without_end_blanks (xs ++ b ∷ []) ≡ without_end_blanks xs
end_blank xs b h =
    ap (λ ys. reverse (without_front_blanks ys)) (reverse-append xs (b ∷ []))
    ∙ ap (λ t. reverse (if t then without_front_blanks (reverse xs) else b ∷ reverse xs)) h

pub end_solid : (xs : List ℕ) (b : ℕ) → is_blank b ≡ false → without_end_blanks (xs ++ b ∷ []) ≡ xs ++ b ∷ []
end_solid xs b h =
    ap (λ ys. reverse (without_front_blanks ys)) (reverse-append xs (b ∷ []))
    ∙ ap (λ t. reverse (if t then without_front_blanks (reverse xs) else b ∷ reverse xs)) h
    ∙ reverse-append (b ∷ []) (reverse xs) ∙ ap (λ ys. ys ++ b ∷ []) (reverse-reverse xs)

-- the first i bytes are the first i - 1 and the last of them
last_of : (xs : List ℕ) (i : ℕ) → 0 < i → i ≤ length xs → take i xs ≡ take (i - 1) xs ++ get_or xs (i - 1) 0 ∷ []
last_of xs i h k =
    let e : (i - 1) + 1 ≡ i = omega arith in
    ap (λ v. take v xs) (sym e) ∙ take_more xs (i - 1) 0 (omega arith)

-- a round of the loop: the last of the first i bytes is a space or tab, and is dropped
pub end_step : (xs : List ℕ) (i : ℕ) → 0 < i → i ≤ length xs → is_blank (get_or xs (i - 1) 0) ≡ true
    → without_end_blanks (take i xs) ≡ without_end_blanks (take (i - 1) xs)
end_step xs i h k b = ap without_end_blanks (last_of xs i h k) ∙ end_blank (take (i - 1) xs) (get_or xs (i - 1) 0) b

-- the loop's end at another byte: nothing is cut off the first i bytes
pub end_stop : (xs : List ℕ) (i : ℕ) → 0 < i → i ≤ length xs → is_blank (get_or xs (i - 1) 0) ≡ false
    → without_end_blanks (take i xs) ≡ take i xs
end_stop xs i h k b = ap without_end_blanks (last_of xs i h k) ∙ end_solid (take (i - 1) xs) (get_or xs (i - 1) 0) b
    ∙ sym (last_of xs i h k)

-- a byte 13 (`\r`) at the end is cut; any other byte stays
pub return_then : (xs : List ℕ) → get_or xs (length xs - 1) 0 ≡ 13 → take (length xs - 1) xs ≡ without_return xs
return_then xs b = rw b refl

pub return_else : (xs : List ℕ) → (get_or xs (length xs - 1) 0 ≢ 13) → xs ≡ without_return xs
return_else xs b = let e : (get_or xs (length xs - 1) 0 == 13) ≡ false = grind arith in rw e refl

-- the loop's end at the text's front: all bytes were spaces and tabs, and none is left
pub zero_end : (xs : List ℕ) (i : ℕ) → i ≤ 0 → take i xs ≡ without_end_blanks (take i xs)
zero_end xs i h = let e : i ≡ 0 = omega arith in rw e refl
