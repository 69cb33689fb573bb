-- Of a line that is read only the first n bytes are kept, n being the limit of a line's length; a byte 0 after them
-- replaces all that were dropped (`kept_part`). The lines are the same, as this one is too long either way
-- (overflow_same, by induction over the bytes that come, with ten_step and byte_step), and the line made from the bytes
-- kept is the definition's (line_kept, line_put). Also lines where no byte follows (none_from, last_left), and that
-- trimmed texts are no longer (_short).
use Rattle.std.proofs.Common.{◌≡◌, ℕ, ◌+◌, ◌-◌, ◌<◌, ◌≤◌, ◌==◌, nat_lt, nat_eq, min, ◌≢◌, Bool, true, false, List, [], ◌∷◌, ◌++◌, length, take, drop, refl, sym, ap, ◌∙◌, arith, append_assoc, length-append, reverse}
use Rattle.std.specs.List.{onto_first}
use Rattle.std.proofs.{lemmas.List.Splits.slice_split-cons_yes, lemmas.List.Splits.slice_split-cons_no, lemmas.List.Splits.length-slice_split, Math.Nat.min-le_right, lemmas.Grind.common_steps, lemmas.Bool.Decides.nat_tests}
use Rattle.std.proofs.lemmas.List.{take-take, take-append-le, take-append-drop, take_min, take_all, length-take, length-take-le, length-reverse}
use Rattle.text_lines.specs.ties.Kept.{kept_part, SameLines}
use Rattle.text_lines.specs.Lines.{line_of, lines_from, parts, lines_of_parts, with_front, trimmed, without_front_blanks, without_end_blanks, without_return}
use Rattle.text_lines.proofs.shared.Lines.{without_front_blanks-short}

lt_true : (m n : ℕ) → m < n → nat_lt m n ≡ true
lt_true m n h = grind arith

-- a text of no more than 64 bytes is its own first 64
pub all_taken : (xs : List ℕ) → length xs ≤ 64 → xs ≡ take 64 xs
all_taken xs h = sym (take_all 64 xs h)

pub beginning_short : (xs : List ℕ) → length (take 64 xs) ≤ length xs
beginning_short xs =
    let is = length-take 64 xs in omega (arith, is)

-- the part of a line that is too long isn't empty: at least the byte 0 is there, which stands for what was dropped
pub long_has_bytes : (items part : List ℕ) (long : Bool) → kept_part items long ≡ part → long ≡ true
    → false ≡ (length part == 0)
long_has_bytes items part true is h =
    let len : length (items ++ 0 ∷ []) ≡ length items + 1 = grind (arith, common_steps) in
    let some : nat_eq (length (items ++ 0 ∷ [])) 0 ≡ false = grind arith in
    sym some ∙ ap (λ (xs : List ℕ). length xs == 0) is
long_has_bytes items part false is h = absurd (cc)

-- how many bytes of a line that is too long are shown as its text: 64, or n if that is less
shown_len : ℕ → ℕ
shown_len n = min 64 n

shown_le : (n : ℕ) → shown_len n ≤ n
unfolding shown_len
shown_le n = min-le_right 64 n

-- two lines that are too long are the same line if the bytes shown of them are the same
line_long : (n : ℕ) (e : Bool) (x y : List ℕ) → n < length x → n < length y
    → take (shown_len n) x ≡ take (shown_len n) y → line_of n e x ≡ line_of n e y
unfolding line_of shown_len
line_long n e x y h k t = rw (lt_true n (length x) h, lt_true n (length y) k, t) refl

-- ---- the parts of a text between its `\n`s, where the beginning of the first has come before

-- if the text begins with a `\n`, the first part is what has come before
front_part : (front : List ℕ) (more : List (List ℕ)) → with_front front ([] ∷ more) ≡ front ∷ more
front_part [] more = refl
front_part (b ∷ front) more = ap (onto_first b) (front_part front more)

-- a byte at the front of the first part may as well be the last that has come before
front_byte : (front : List ℕ) (c : ℕ) (all : List (List ℕ))
    → with_front front (onto_first c all) ≡ with_front (front ++ c ∷ []) all
front_byte [] c all = refl
front_byte (b ∷ front) c all = ap (onto_first b) (front_byte front c all)

-- a part that another follows is a line that a `\n` ended
ended_first : (n : ℕ) (at_end : Bool) (part : List ℕ) (all : List (List ℕ)) → 0 < length all
    → lines_of_parts n at_end (part ∷ all) ≡ line_of n true part ∷ lines_of_parts n at_end all
unfolding lines_of_parts
ended_first n at_end part [] some = absurd (omega (arith, some))
ended_first n at_end part (next ∷ more) some = refl

-- a `\n` ends the line that has begun (`part`), and the lines of the bytes after it follow
pub ten_step : (n : ℕ) (at_end : Bool) (part : List ℕ) (b : ℕ) (bs : List ℕ) → b ≡ 10
    → lines_from n at_end part (b ∷ bs) ≡ line_of n true part ∷ lines_from n at_end [] bs
ten_step n at_end part b bs h =
    let e : nat_eq b 10 ≡ true = grind arith in
    let some = length-slice_split (λ c. c == 10) bs in
    ap (λ all. lines_of_parts n at_end (with_front part all)) (slice_split-cons_yes (λ c. c == 10) b bs e)
    ∙ ap (lines_of_parts n at_end) (front_part part (parts bs))
    ∙ ended_first n at_end part (parts bs) (omega (arith, some))

-- any other byte is added to the line that has begun
pub byte_step : (n : ℕ) (at_end : Bool) (part : List ℕ) (b : ℕ) (bs : List ℕ) → b ≢ 10
    → lines_from n at_end part (b ∷ bs) ≡ lines_from n at_end (part ++ b ∷ []) bs
byte_step n at_end part b bs h =
    let e : nat_eq b 10 ≡ false = grind arith in
    ap (λ all. lines_of_parts n at_end (with_front part all)) (slice_split-cons_no (λ c. c == 10) b bs e)
    ∙ ap (lines_of_parts n at_end) (front_byte part b (parts bs))

-- if no byte follows, what has come is the only part
alone : (part : List ℕ) → with_front part (parts []) ≡ part ∷ []
alone part = front_part part []

last_of : (n : ℕ) (part : List ℕ) → lines_of_parts n false (part ∷ []) ≡ []
unfolding lines_of_parts
last_of n part = refl

-- if no byte follows and the stream hasn't ended, there is no line
pub none_from : (n : ℕ) (part : List ℕ) → lines_from n false part [] ≡ []
none_from n part = ap (lines_of_parts n false) (alone part) ∙ last_of n part

last_at_end : (n : ℕ) (part : List ℕ) → 0 < length part → lines_of_parts n true (part ∷ []) ≡ line_of n false part ∷ []
unfolding lines_of_parts
last_at_end n part h = rw (lt_true 0 (length part) h) refl

-- if no byte follows and the stream has ended, what has come is the last line
pub last_left : (n : ℕ) (part : List ℕ) → 0 < length part → lines_from n true part [] ≡ line_of n false part ∷ []
last_left n part h = ap (lines_of_parts n true) (alone part) ∙ last_at_end n part h

-- if both x and y are already too long for a line, and the bytes shown of them are the same, the same lines follow
-- after either; by induction on the bytes that come
long_same : (n : ℕ) (x y : List ℕ) → n < length x → n < length y → take (shown_len n) x ≡ take (shown_len n) y
    → SameLines n x y
long_same n x y h k t true [] =
    last_left n x (omega arith) ∙ ap (λ line. line ∷ []) (line_long n false x y h k t)
    ∙ sym (last_left n y (omega arith))
long_same n x y h k t false [] = none_from n x ∙ sym (none_from n y)
long_same n x y h k t at_end (c ∷ cs) =
    let len_x : length (x ++ c ∷ []) ≡ length x + 1 = grind (arith, common_steps) in
    let len_y : length (y ++ c ∷ []) ≡ length y + 1 = grind (arith, common_steps) in
    let few : shown_len n ≤ n = shown_le n in
    at (c == 10) refl (
    long_same n (x ++ c ∷ []) (y ++ c ∷ []) (omega arith) (omega arith)
    (take-append-le (shown_len n) x (c ∷ []) (omega arith) ∙ t
    ∙ sym (take-append-le (shown_len n) y (c ∷ []) (omega arith))) at_end cs
    )
  where
    at : (b : Bool) → (c == 10) ≡ b → lines_from n at_end (x ++ c ∷ []) cs ≡ lines_from n at_end (y ++ c ∷ []) cs
        → lines_from n at_end x (c ∷ cs) ≡ lines_from n at_end y (c ∷ cs)
    at true e on =
        let ten : c ≡ 10 = grind arith in
        ten_step n at_end x c cs ten ∙ ap (λ line. line ∷ lines_from n at_end [] cs) (line_long n true x y h k t)
        ∙ sym (ten_step n at_end y c cs ten)
    at false e on =
        let other : c ≢ 10 = grind arith in
        byte_step n at_end x c cs other ∙ on ∙ sym (byte_step n at_end y c cs other)

-- of `bytes` only those that fit after `items` are kept, up to n in all; a byte 0 in place of the others gives the same
-- lines, as the line is too long either way
pub overflow_same : (n : ℕ) (items : List ℕ) (long : Bool) (bytes : List ℕ) → (long ≡ true → length items ≡ n)
    → length items ≤ n → n - length items < length bytes
    → SameLines n (kept_part items long ++ bytes) ((items ++ take (n - length items) bytes) ++ 0 ∷ [])
overflow_same n items true bytes full fits over =
    let r = n - length items in
    let at : length items ≡ n = full refl in
    let few : shown_len n ≤ n = shown_le n in
    let l1 = length-append items (0 ∷ []) in
    let l2 = length-append (items ++ 0 ∷ []) bytes in
    let l3 = length-append items (take r bytes) in
    let l4 = length-append (items ++ take r bytes) (0 ∷ []) in
    long_same n ((items ++ 0 ∷ []) ++ bytes) ((items ++ take r bytes) ++ 0 ∷ []) (omega arith) (omega arith)
    (take-append-le (shown_len n) (items ++ 0 ∷ []) bytes (omega arith)
    ∙ take-append-le (shown_len n) items (0 ∷ []) (omega arith)
    ∙ sym (take-append-le (shown_len n) items (take r bytes) (omega arith))
    ∙ sym (take-append-le (shown_len n) (items ++ take r bytes) (0 ∷ []) (omega arith)))
overflow_same n items false bytes full fits over =
    let r = n - length items in
    let few : shown_len n ≤ n = shown_le n in
    let l1 = length-append items bytes in
    let l2 = length-take-le r bytes (omega arith) in
    let l3 = length-append items (take r bytes) in
    let l4 = length-append (items ++ take r bytes) (0 ∷ []) in
    let split : items ++ bytes ≡ (items ++ take r bytes) ++ drop r bytes =
    ap (λ v. items ++ v) (sym (take-append-drop r bytes)) ∙ sym (append_assoc items (take r bytes) (drop r bytes)) in
    long_same n (items ++ bytes) ((items ++ take r bytes) ++ 0 ∷ []) (omega arith) (omega arith)
    (ap (take (shown_len n)) split
    ∙ take-append-le (shown_len n) (items ++ take r bytes) (drop r bytes) (omega arith)
    ∙ sym (take-append-le (shown_len n) (items ++ take r bytes) (0 ∷ []) (omega arith)))

le-ltb_false : (n m : ℕ) → m ≤ n → nat_lt n m ≡ false
le-ltb_false n m h = grind arith

line_short : (n : ℕ) (e : Bool) (x : List ℕ) → length x ≤ n
    → line_of n e x ≡ record { text = trimmed x; too_long = false; ended = e }
unfolding line_of
line_short n e x h = rw (le-ltb_false n (length x) h) refl

line_over : (n : ℕ) (e : Bool) (x : List ℕ) → n < length x
    → line_of n e x ≡ record { text = take (shown_len n) x; too_long = true; ended = e }
unfolding line_of shown_len
line_over n e x h = rw (lt_true n (length x) h) refl

-- of a line that is too long n bytes are kept, and the first 64 of these are the bytes shown
shown_kept : (n : ℕ) (items : List ℕ) → length items ≡ n → take (shown_len n) items ≡ take 64 items
unfolding shown_len
shown_kept n items e = ap (λ k. take (min 64 k) items) (sym e) ∙ take_min 64 items

-- the line made from the bytes kept (`items`) is the definition's line of the part (`whole`): their first 64 bytes if
-- more came (`long`), and otherwise the trimmed text
pub line_kept : (n : ℕ) (e long : Bool) (items text whole : List ℕ) → (long ≡ true → length items ≡ n)
    → length items ≤ n → kept_part items long ≡ whole
    → (long ≡ true → text ≡ take 64 items) → (long ≡ false → text ≡ trimmed items)
    → record { text = text; too_long = long; ended = e } ≡ line_of n e whole
line_kept n e true items text whole full short is t f =
    let len : length (items ++ 0 ∷ []) ≡ length items + 1 = grind (arith, common_steps) in
    let at : length items ≡ n = full refl in
    let few : shown_len n ≤ n = shown_le n in
    ap (λ v. record { text = v; too_long = true; ended = e })
    (t refl ∙ sym (shown_kept n items at) ∙ sym (take-append-le (shown_len n) items (0 ∷ []) (omega arith)))
    ∙ sym (line_over n e (items ++ 0 ∷ []) (omega arith)) ∙ ap (line_of n e) is
line_kept n e false items text whole full short is t f =
    ap (λ v. record { text = v; too_long = false; ended = e }) (f refl) ∙ sym (line_short n e items short)
    ∙ ap (line_of n e) is

-- the same for a line that came in one piece (`put_line`): of its bytes `kept` are the first n, or all if there are no
-- more
pub line_put : (n : ℕ) (e : Bool) (bytes kept text : List ℕ)
    → (nat_lt n (length bytes) ≡ true → text ≡ take 64 kept)
    → (nat_lt n (length bytes) ≡ false → text ≡ trimmed kept)
    → (n < length bytes → kept ≡ take n bytes) → (length bytes ≤ n → kept ≡ bytes)
    → record { text = text; too_long = nat_lt n (length bytes); ended = e } ≡ line_of n e bytes
line_put n e bytes kept text long short front whole = at (nat_lt n (length bytes)) refl long short
  where
    at : (b : Bool) → nat_lt n (length bytes) ≡ b → (b ≡ true → text ≡ take 64 kept)
        → (b ≡ false → text ≡ trimmed kept) → record { text = text; too_long = b; ended = e } ≡ line_of n e bytes
    at true t l s =
        let over : n < length bytes = grind (arith, nat_tests, t) in
        let len : length (take n bytes) ≡ n = length-take-le n bytes (omega arith) in
        ap (λ v. record { text = v; too_long = true; ended = e })
        (l refl ∙ ap (take 64) (front over) ∙ sym (shown_kept n (take n bytes) len)
        ∙ take-take (shown_len n) n bytes (shown_le n))
        ∙ sym (line_over n e bytes over)
    at false t l s =
        let fits : length bytes ≤ n = grind (arith, nat_tests, t) in
        ap (λ v. record { text = v; too_long = false; ended = e }) (s refl ∙ ap trimmed (whole fits))
        ∙ sym (line_short n e bytes fits)

pub without_end_blanks-short : (xs : List ℕ) → length (without_end_blanks xs) ≤ length xs
without_end_blanks-short xs =
    let a = length-reverse (without_front_blanks (reverse xs)) in
    let b = without_front_blanks-short (reverse xs) in
    let d = length-reverse xs in omega (arith, a, b, d)

pub without_return-short : (xs : List ℕ) → length (without_return xs) ≤ length xs
without_return-short xs = let l = length-take (length xs - 1) xs in grind (arith, l)

pub trimmed_short : (xs : List ℕ) → length (trimmed xs) ≤ length xs
unfolding trimmed
trimmed_short xs =
    let a = without_end_blanks-short (without_front_blanks (without_return xs)) in
    let b = without_front_blanks-short (without_return xs) in
    let d = without_return-short xs in omega (arith, a, b, d)

-- the flag of a line is the one that it is made with
pub line_ended : (n : ℕ) (e : Bool) (piece : List ℕ) → (line_of n e piece).ended ≡ e
unfolding line_of
line_ended n e piece = refl
