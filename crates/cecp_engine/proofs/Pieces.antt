-- A word is looked for in a list that is separated by commas, spaces and tabs, such as `normal,fischerandom`. The
-- definition cuts the list into entries at once, the loop goes byte by byte: has_word_after is what the loop has left
-- to find out. Both agree before the first byte (cut_at_once, by induction on the list), and the loop's steps keep
-- has_word_after: over a byte of an entry (over_byte), and over a separator (over_mark).
use Rattle.std.proofs.Common.{◌≡◌, ℕ, zero, suc, ◌+◌, ◌-◌, ◌<◌, ◌≤◌, Bool, true, false, ◌||◌, List, [], ◌∷◌, ◌++◌, length, take, drop, get_or, refl, ap, sym, ◌∙◌, arith, append_assoc, append-nil, cond, bytes_eq, take-suc, if◌then◌else◌, ◌==◌}
use mathlib.Core.Bool.{or-false}
use Rattle.std.specs.List.{list_any, slice_split, onto_first}
use Rattle.std.proofs.lemmas.List.{drop_more}
use Rattle.byte_devices.specs.Bytes.{byte, is_blank}

-- whether a byte separates the names in the value of `variants`: a comma, space or tab
abbrev pub is_comma_or_blank : ℕ → Bool
is_comma_or_blank c = is_blank c || (c == byte ",")

-- whether the word (the first argument) is an entry, where `piece` is the entry that has begun, and the last argument
-- the rest of the text
abbrev pub has_word_after : List ℕ → List ℕ → List ℕ → Bool
has_word_after word piece [] = bytes_eq piece word
has_word_after word piece (c ∷ cs) =
    if is_comma_or_blank c then bytes_eq piece word || has_word_after word [] cs
    else has_word_after word (piece ++ c ∷ []) cs

-- the entries, with the bytes of another put before the first one's, as one entry
abbrev after_piece : List ℕ → List (List ℕ) → List (List ℕ)
after_piece piece [] = piece ∷ []
after_piece piece (first ∷ pieces) = (piece ++ first) ∷ pieces

-- whether one of the entries is this word
abbrev is_any : List ℕ → List (List ℕ) → Bool
is_any word pieces = list_any (λ piece. bytes_eq piece word) pieces

-- a byte at the end of `piece`, or before the first of the entries `pieces`, is the same
after_byte : (piece : List ℕ) (c : ℕ) (pieces : List (List ℕ))
    → after_piece (piece ++ c ∷ []) pieces ≡ after_piece piece (onto_first c pieces)
after_byte piece c [] = refl
after_byte piece c (first ∷ pieces) = ap (λ (l : List ℕ). l ∷ pieces) (append_assoc piece (c ∷ []) first)

-- nothing put before the entries leaves them
after_none : (p : ℕ → Bool) (text : List ℕ) → after_piece [] (slice_split p text) ≡ slice_split p text
after_none p [] = refl
after_none p (c ∷ cs) = at (p c) (slice_split p cs)
  where
    at : (b : Bool) (pieces : List (List ℕ)) → after_piece [] (cond b ([] ∷ pieces) (onto_first c pieces))
        ≡ cond b ([] ∷ pieces) (onto_first c pieces)
    at true pieces = refl
    at false [] = refl
    at false (first ∷ pieces) = refl

-- one byte: a separator (`b`) ends the entry, any other byte goes to it
cut_at : (word piece : List ℕ) (c : ℕ) (cs : List ℕ) (b : Bool)
    → ((p : List ℕ) → is_any word (after_piece p (slice_split is_comma_or_blank cs)) ≡ has_word_after word p cs)
    → is_any word (after_piece piece
    (cond b ([] ∷ slice_split is_comma_or_blank cs) (onto_first c (slice_split is_comma_or_blank cs))))
    ≡ (if b then bytes_eq piece word || has_word_after word [] cs else has_word_after word (piece ++ c ∷ []) cs)
cut_at word piece c cs true rest =
    ap (λ (l : List ℕ). bytes_eq l word || is_any word (slice_split is_comma_or_blank cs)) (append-nil piece)
    ∙ ap (λ (b : Bool). bytes_eq piece word || b)
    (sym (ap (is_any word) (after_none is_comma_or_blank cs)) ∙ rest [])
cut_at word piece c cs false rest =
    sym (ap (is_any word) (after_byte piece c (slice_split is_comma_or_blank cs))) ∙ rest (piece ++ c ∷ [])

-- the entries of the rest, with `piece` put before the first, have the word just where has_word_after says so; by
-- induction on the rest
cut_after : (word piece text : List ℕ)
    → is_any word (after_piece piece (slice_split is_comma_or_blank text)) ≡ has_word_after word piece text
cut_after word piece [] = rw (append-nil piece) (or-false (bytes_eq piece word))
cut_after word piece (c ∷ cs) = cut_at word piece c cs (is_comma_or_blank c) (λ p. cut_after word p cs)

-- so before the first byte, where no entry has begun, both agree
pub cut_at_once : (word text : List ℕ)
    → list_any (λ piece. bytes_eq piece word) (slice_split is_comma_or_blank text) ≡ has_word_after word [] text
cut_at_once word text = sym (ap (is_any word) (after_none is_comma_or_blank text)) ∙ cut_after word [] text

-- the bytes from `from` to `at`, and the one at `at`
piece_more : (text : List ℕ) (from at : ℕ) → from ≤ at → at < length text
    → take (at + 1 - from) (drop from text) ≡ take (at - from) (drop from text) ++ get_or text at 0 ∷ []
piece_more text zero at o h =
    let more : at + 1 - 0 ≡ suc at = omega arith in
    let less : at - 0 ≡ at = omega arith in
    rw (more, less) (take-suc text at 0 h)
piece_more [] (suc from) at o h = absurd (omega (arith, h))
piece_more (c ∷ cs) (suc from) zero o h = absurd (omega (arith, o))
piece_more (c ∷ cs) (suc from) (suc at) o h =
    let more : suc at + 1 - suc from ≡ at + 1 - from = omega arith in
    let less : suc at - suc from ≡ at - from = omega arith in
    rw (more, less) (piece_more cs from at (omega (arith, o)) (omega (arith, h)))

-- has_word_after at one byte, by whether it is a separator
by_byte : (word piece : List ℕ) (c : ℕ) (cs : List ℕ) (b : Bool) → is_comma_or_blank c ≡ b
    → has_word_after word piece (c ∷ cs)
    ≡ (if b then bytes_eq piece word || has_word_after word [] cs else has_word_after word (piece ++ c ∷ []) cs)
by_byte word piece c cs b e = rw e refl

-- a step of the loop over a byte that is no separator: the entry has that byte more
pub over_byte : (word text : List ℕ) (from at : ℕ) → from ≤ at → at < length text
    → is_comma_or_blank (get_or text at 0) ≡ false
    → has_word_after word (take (at - from) (drop from text)) (drop at text) ≡ has_word_after word
    (take (at + 1 - from) (drop from text)) (drop (at + 1) text)
over_byte word text from at o h e =
    ap (λ (rest : List ℕ). has_word_after word (take (at - from) (drop from text)) rest) (drop_more text at 0 h)
    ∙ by_byte word (take (at - from) (drop from text)) (get_or text at 0) (drop (at + 1) text) false e
    ∙ ap (λ (piece : List ℕ). has_word_after word piece (drop (at + 1) text)) (sym (piece_more text from at o h))

nothing_taken : (n : ℕ) (xs : List ℕ) → take (n - n) xs ≡ []
nothing_taken n xs = let e : n - n ≡ 0 = omega arith in rw e refl

-- a step over a separator, where the entry before it isn't the word: the next entry begins after it
pub over_mark : (word text : List ℕ) (from at : ℕ) → at < length text → is_comma_or_blank (get_or text at 0) ≡ true
    → bytes_eq (take (at - from) (drop from text)) word ≡ false
    → has_word_after word (take (at - from) (drop from text)) (drop at text) ≡ has_word_after word
    (take (at + 1 - (at + 1)) (drop (at + 1) text)) (drop (at + 1) text)
over_mark word text from at h e other =
    ap (λ (rest : List ℕ). has_word_after word (take (at - from) (drop from text)) rest) (drop_more text at 0 h)
    ∙ by_byte word (take (at - from) (drop from text)) (get_or text at 0) (drop (at + 1) text) true e
    ∙ ap (λ b. b || has_word_after word [] (drop (at + 1) text)) other
    ∙ ap (λ (piece : List ℕ). has_word_after word piece (drop (at + 1) text))
    (sym (nothing_taken (at + 1) (drop (at + 1) text)))
