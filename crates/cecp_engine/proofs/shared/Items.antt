-- For crates above too: the items of a `feature` line, such as `ping=1`. An item is cut from a text as code cuts it
-- (item_parts), without a value where a quote isn't closed (unclosed), and takes at least two bytes more than its name
-- (item_room, item_shorter). So the items of a text are its first one and those of the rest (items_of-step), and a loop
-- over them keeps SoFar (so_far_more, so_far_done, so_far_none). Of a name the last item counts (last_said-snoc).
use Rattle.std.proofs.Common.{◌≡◌, ℕ, zero, suc, ◌+◌, ◌-◌, ◌≤◌, ◌<◌, Bool, true, false, List, [], ◌∷◌, ◌++◌, length, take, drop, get_or, refl, ap, sym, ◌∙◌, Option, None, Some, arith, length-append, length-drop, append_assoc, append-nil, bytes_eq, length-take-le, take-append-drop, take_all, if◌then◌else◌, ◌==◌, ◌&&◌, ◌||◌, not, nat_lt, option_and_then}
use Rattle.std.proofs.{lemmas.Bool.Decides.nat_tests, lemmas.List.Sums.prefix_len-le-length}
use Rattle.std.specs.Option.{option_map_or}
use Rattle.byte_devices.specs.Bytes.{byte, is_digit, is_blank, is_name_byte}
use Rattle.text_lines.specs.Lines.{without_front_blanks}
use Rattle.text_lines.proofs.shared.Lines.{without_front_blanks-short}
use Rattle.std.specs.List.{list_all, position_or_len, prefix_len, take_while, list_any}
use Rattle.cecp_engine.specs.Items.{Item, Value, value_of, item_of, ends_handshake, first_items, items_of, last_said}
use Rattle.cecp_engine.specs.shared.Values.{value_cut}

-- ---- the last value

-- what the last item of a name says, after one item more
pub last_said-snoc : {A : Type 0} (f : Value → A) (default : A) (name : List ℕ) (items : List Item) (i : Item)
    → last_said f default name (items ++ i ∷ [])
    ≡ (if bytes_eq i.name name then f i.value else last_said f default name items)
last_said-snoc f default name [] i = refl
last_said-snoc f default name (j ∷ items) i =
    last_said-snoc f (if bytes_eq j.name name then f j.value else default) name items i

-- ---- an item takes a byte

-- the index of the first double quote; the text's length if there is none
abbrev quote_at : List ℕ → ℕ
quote_at text = position_or_len (λ c. c == byte "\"") text

-- a double quote is no digit
quote_no_digit : (c : ℕ) → is_digit c ≡ true → (c == 34) ≡ false
quote_no_digit c h = grind (arith, nat_tests)

-- a value in quotes, from the text after its first quote, and what follows, by how many bytes are before the next quote
abbrev quoted_by : List ℕ → ℕ → Value × List ℕ
quoted_by cs n = (record { quoted = true; text = take (quote_at cs) cs }, drop (n + 1) cs)

-- the digits at the front of a text as a value, and what follows, by the number of digits
abbrev digits_by : List ℕ → ℕ → Value × List ℕ
digits_by text n = (record { quoted = false; text = take_while is_digit text }, drop n text)

-- the value that `c ∷ cs` begins with, by these two numbers
abbrev value_by : ℕ → List ℕ → ℕ → ℕ → Option (Value × List ℕ)
value_by c cs inside digits = if c == 34 then (if nat_lt inside (length cs) then Some (quoted_by cs inside) else None)
    else if is_digit c then Some (digits_by (c ∷ cs) digits) else None

-- a value, as it is defined, is cut from the text as code cuts it
value_is : (text : List ℕ) → value_of text ≡ value_cut text
value_is [] = refl
value_is (c ∷ cs) =
    ap (λ n. value_by c cs n (length (take_while is_digit (c ∷ cs))))
    (length-take-le (quote_at cs) cs (prefix_len-le-length (λ b. not (b == 34)) cs))
    ∙ ap (λ n. value_by c cs (quote_at cs) n)
    (length-take-le (prefix_len is_digit (c ∷ cs)) (c ∷ cs) (prefix_len-le-length is_digit (c ∷ cs)))
    ∙ by_tests (c == 34) (nat_lt (quote_at cs) (length cs)) (is_digit c) refl refl
  where
    by_tests : (a b d : Bool) → (c == 34) ≡ a → is_digit c ≡ d
        → (if a then (if b then Some (quoted_by cs (quote_at cs)) else None)
        else if d then Some (digits_by (c ∷ cs) (prefix_len is_digit (c ∷ cs))) else None)
        ≡ (if a && b then Some (quoted_by cs (quote_at cs))
        else if d then Some (digits_by (c ∷ cs) (prefix_len is_digit (c ∷ cs))) else None)
    by_tests true true d e f = refl
    by_tests true false true e f =
        let no : (c == 34) ≡ false = quote_no_digit c f in absurd (let h : true ≡ false = sym e ∙ no in cc)
    by_tests true false false e f = refl
    by_tests false b d e f = refl

-- what is left after a value is cut off is shorter than the text
value_shorter : (text : List ℕ) (p : Value × List ℕ) → value_cut text ≡ Some p → length p.1 < length text
value_shorter [] p e = cc
value_shorter (c ∷ cs) p e = by_tests ((c == 34) && nat_lt (quote_at cs) (length cs)) (is_digit c) refl e
  where
    by_tests : (a b : Bool) → is_digit c ≡ b
        → (if a then Some (record { quoted = true; text = take (quote_at cs) cs }, drop (quote_at cs + 1) cs)
        else if b then Some (record { quoted = false; text = take_while is_digit (c ∷ cs) }, drop (prefix_len is_digit (c ∷ cs)) (c ∷ cs))
        else None) ≡ Some p
        → length p.1 < length (c ∷ cs)
    by_tests true b k e =
        let d : length (drop (quote_at cs + 1) cs) ≡ length cs - (quote_at cs + 1) = length-drop (quote_at cs + 1) cs in
        let s : length p.1 ≡ length (drop (quote_at cs + 1) cs) = cc in
        omega arith
    by_tests false true k e =
        let n : prefix_len is_digit (c ∷ cs) ≡ 1 + prefix_len is_digit cs = rw k refl in
        let d : length (drop (prefix_len is_digit (c ∷ cs)) (c ∷ cs)) ≡ length (c ∷ cs) - prefix_len is_digit (c ∷ cs) =
        length-drop (prefix_len is_digit (c ∷ cs)) (c ∷ cs) in
        let s : length p.1 ≡ length (drop (prefix_len is_digit (c ∷ cs)) (c ∷ cs)) = cc in
        omega arith
    by_tests false false k e = cc

-- what follows the first byte, as code cuts it
after_first : List ℕ → List ℕ
after_first text = take (length text - 1) (drop 1 text)

-- a text without its first byte, by its parts
after_first-is : (c : ℕ) (cs : List ℕ) → after_first (c ∷ cs) ≡ cs
unfolding after_first
after_first-is c cs = take_all (length (c ∷ cs) - 1) cs (omega arith)

-- a quote with no other after it is no value
pub unclosed : (text : List ℕ) (at : ℕ) → get_or text 0 0 ≡ 34
    → at ≡ position_or_len (λ c. c == byte "\"") (take (length text - 1) (drop 1 text))
    → length (take (length text - 1) (drop 1 text)) ≤ at → None ≡ value_cut text
unfolding after_first
unclosed [] at h e k = refl
unclosed (c ∷ cs) at h e k =
    let rest : take (length (c ∷ cs) - 1) cs ≡ cs = after_first-is c cs in
    let place : at ≡ quote_at cs = e ∙ ap (λ (l : List ℕ). quote_at l) rest in
    let same : length (take (length (c ∷ cs) - 1) cs) ≡ length cs = ap (λ (l : List ℕ). length l) rest in
    let none : nat_lt (quote_at cs) (length cs) ≡ false = grind (arith, place, same, k) in
    rw (h, none) refl

-- ---- an item by its parts, each with what is left after it

-- the item with this name and the value that `rest` begins with, and the text after it, without spaces and tabs at its
-- front. `None` if `rest` begins with no value, or anything but a space, a tab or the end comes right after the value
abbrev with_value : List ℕ → List ℕ → Option (Item × List ℕ)
with_value name rest =
    option_and_then (λ (p : Value × List ℕ). if list_all is_blank (take 1 p.1) then Some
    (record { name = name; value = p.0 }, without_front_blanks p.1) else None) (value_cut rest)

-- the item whose name is the first text, and whose `=` and value the second text begins with; and what follows these,
-- without spaces and tabs at its front. `None` if the name is empty, `=` is missing, or the value is missing or
-- malformed
abbrev pub with_name : List ℕ → List ℕ → Option (Item × List ℕ)
with_name (n ∷ ns) (c ∷ cs) = if c == 61 then with_value (n ∷ ns) cs else None
with_name _ _ = None

-- the item of this name, as defined, from what follows the name, and from the value after its first byte
abbrev item_by : List ℕ → List ℕ → Option (Value × List ℕ) → Option (Item × List ℕ)
item_by name rest value =
    if length name == 0 || not (bytes_eq (take 1 rest) (61 ∷ [])) then None
    else option_and_then (λ (p : Value × List ℕ). if list_all is_blank (take 1 p.1) then
    Some (record { name = name; value = p.0 }, without_front_blanks p.1) else None) value

-- the item of this name from what follows the name, with the value as code cuts it
abbrev item_after : List ℕ → List ℕ → Option (Item × List ℕ)
item_after name rest = item_by name rest (value_cut (drop 1 rest))

-- the item of a name from what follows it, with the value as code cuts it, is `with_name`
item_after-is : (name rest : List ℕ) → item_after name rest ≡ with_name name rest
item_after-is [] rest = refl
item_after-is (n ∷ ns) [] = by_test (length (n ∷ ns) == 0)
  where
    by_test : (b : Bool) → (if b || true then None else with_value (n ∷ ns) []) ≡ None
    by_test true = refl
    by_test false = refl
item_after-is (n ∷ ns) (c ∷ cs) =
    let some : (length (n ∷ ns) == 0) ≡ false = grind (arith, nat_tests) in
    rw some (by_test (c == 61))
  where
    by_test : (b : Bool)
        → (if not (b && true) then None else with_value (n ∷ ns) cs)
        ≡ (if b then with_value (n ∷ ns) cs else None)
    by_test true = refl
    by_test false = refl

-- the item that a text begins with, by its parts
pub item_parts : (text : List ℕ)
    → item_of text ≡ with_name (take_while is_name_byte text) (drop (prefix_len is_name_byte text) text)
unfolding item_of
item_parts text =
    ap (item_by (take_while is_name_byte text) (drop (length (take_while is_name_byte text)) text))
    (value_is (drop 1 (drop (length (take_while is_name_byte text)) text)))
    ∙ item_after-is (take_while is_name_byte text) (drop (length (take_while is_name_byte text)) text)
    ∙ ap (λ n. with_name (take_while is_name_byte text) (drop n text))
    (length-take-le (prefix_len is_name_byte text) text (prefix_len-le-length is_name_byte text))

-- the name of an item that was read, or the one given
abbrev name_or : List ℕ → Option (Item × List ℕ) → List ℕ
name_or default None = default
name_or default (Some p) = p.0.name

-- an item that is read after its name has this name, and leaves less than what came after the name
with_value_shorter : (name rest : List ℕ) (v : Option (Value × List ℕ)) (p : Item × List ℕ) → value_cut rest ≡ v
    → option_and_then (λ (p : Value × List ℕ). if list_all is_blank (take 1 p.1) then
    Some (record { name = name; value = p.0 }, without_front_blanks p.1) else None) v ≡ Some p
    → (p.0.name ≡ name) × (length p.1 < length rest)
with_value_shorter name rest None p is e = cc
with_value_shorter name rest (Some q) p is e = by_test (list_all is_blank (take 1 q.1)) e
  where
    by_test : (b : Bool) → (if b then Some (record { name = name; value = q.0 }, without_front_blanks q.1) else None)
        ≡ Some p → (p.0.name ≡ name) × (length p.1 < length rest)
    by_test true e =
        let n : name ≡ p.0.name = ap (λ (o : Option (Item × List ℕ)). name_or name o) e in
        let s : length p.1 ≡ length (without_front_blanks q.1) = cc in
        let b = without_front_blanks-short q.1 in
        let v = value_shorter rest q is in
        let l : length p.1 < length rest = omega arith in
        (sym n, l)
    by_test false e = cc

-- so with the `=` before the value: the name has a byte or more, and at least two bytes fewer are left
with_name_shorter : (name rest : List ℕ) (p : Item × List ℕ) → with_name name rest ≡ Some p
    → (p.0.name ≡ name) × (0 < length name) × (length p.1 + 1 < length rest)
with_name_shorter [] rest p e = cc
with_name_shorter (n ∷ ns) [] p e = cc
with_name_shorter (n ∷ ns) (c ∷ cs) p e = by_test (c == 61) e
  where
    by_test : (b : Bool) → (if b then with_value (n ∷ ns) cs else None) ≡ Some p
        → (p.0.name ≡ n ∷ ns) × (0 < length (n ∷ ns)) × (length p.1 + 1 < length (c ∷ cs))
    by_test true e =
        let h = with_value_shorter (n ∷ ns) cs (value_cut cs) p refl e in
        let some : 0 < length (n ∷ ns) = omega arith in
        let fewer : length p.1 + 1 < length (c ∷ cs) = omega (arith, h.1) in
        (h.0, some, fewer)
    by_test false e = cc

-- an item takes at least two bytes more than its name, which is not empty
pub item_room : (text : List ℕ) (p : Item × List ℕ) → item_of text ≡ Some p
    → (0 < length p.0.name) × (length p.0.name + length p.1 + 2 ≤ length text)
item_room text p e =
    let h = with_name_shorter (take (prefix_len is_name_byte text) text) (drop (prefix_len is_name_byte text) text) p
    (sym (item_parts text) ∙ e) in
    let all : length (take (prefix_len is_name_byte text) text) + length (drop (prefix_len is_name_byte text) text)
    ≡ length text = sym (length-append (take (prefix_len is_name_byte text) text)
    (drop (prefix_len is_name_byte text) text))
    ∙ ap (λ (l : List ℕ). length l) (take-append-drop (prefix_len is_name_byte text) text) in
    let named : length p.0.name ≡ length (take (prefix_len is_name_byte text) text) =
    ap (λ (l : List ℕ). length l) h.0 in
    let some : 0 < length p.0.name = omega (arith, h.1, named) in
    let fewer : length p.0.name + length p.1 + 2 ≤ length text = omega (arith, all, named, h.2) in
    (some, fewer)

-- what follows an item is shorter than the text
pub item_shorter : (text : List ℕ) (p : Item × List ℕ) → item_of text ≡ Some p → length p.1 < length text
item_shorter text p e = let h = item_room text p e in omega (arith, h.1)

-- ---- the items of a text, step by step

-- the items of a text from its first item: it alone if it ends the handshake, and otherwise also `more` of what is left
abbrev pub items_by : (List ℕ → List Item) → Option (Item × List ℕ) → List Item
items_by more None = []
items_by more (Some p) = if ends_handshake p.0 then p.0 ∷ [] else p.0 ∷ more p.1

-- the first n + 1 items are the first item and the first n of what is left
first_items-by : (n : ℕ) (text : List ℕ) → first_items (suc n) text ≡ items_by (first_items n) (item_of text)
first_items-by n text = at (item_of text)
  where
    at : (o : Option (Item × List ℕ))
        → option_map_or (λ (p : Item × List ℕ). if ends_handshake p.0 then p.0 ∷ [] else p.0 ∷ first_items n p.1) o []
        ≡ items_by (first_items n) o
    at None = refl
    at (Some p) = refl

-- a text without bytes has no item
none_left : (text : List ℕ) → length text ≤ 0 → item_of text ≡ None
none_left [] h = item_parts []
none_left (c ∷ cs) h = absurd (omega arith)

-- two readers that agree on what the first item leaves give the same items
same_by : (f g : List ℕ → List Item) (o : Option (Item × List ℕ)) → ((p : Item × List ℕ) → o ≡ Some p → f p.1 ≡ g p.1)
    → items_by f o ≡ items_by g o
same_by f g None h = refl
same_by f g (Some p) h = ap (λ (is : List Item). if ends_handshake p.0 then p.0 ∷ [] else p.0 ∷ is) (h p refl)

-- the count `n` that `first_items` goes by is only a bound: any two that are at least the text's length give the same
-- items
enough : (n k : ℕ) (text : List ℕ) → length text ≤ n → length text ≤ k → first_items n text ≡ first_items k text
enough zero zero text a b = refl
enough zero (suc k) text a b = sym (first_items-by k text ∙ ap (items_by (first_items k)) (none_left text a))
enough (suc n) zero text a b = first_items-by n text ∙ ap (items_by (first_items n)) (none_left text b)
enough (suc n) (suc k) text a b =
    first_items-by n text
    ∙ same_by (first_items n) (first_items k) (item_of text)
    (λ p e. let h = item_shorter text p e in enough n k p.1 (omega arith) (omega arith))
    ∙ sym (first_items-by k text)

-- the items of a text are its first item and those of what follows it, as `items_by` says
pub items_of-step : (text : List ℕ) → items_of text ≡ items_by items_of (item_of text)
unfolding items_of
items_of-step text = at (length text) refl
  where
    at : (n : ℕ) → length text ≡ n → first_items n text ≡ items_by (λ t. first_items (length t) t) (item_of text)
    at zero e = sym (ap (items_by (λ t. first_items (length t) t)) (none_left text (omega arith)))
    at (suc n) e =
        first_items-by n text
        ∙ same_by (first_items n) (λ t. first_items (length t) t) (item_of text)
        (λ p h. let s = item_shorter text p h in enough n (length p.1) p.1 (omega arith) (omega arith))

-- ---- a loop over items

-- the invariant of a loop over the items of `text`: the items `read` were read, none of which ended the handshake, and
-- `rest` is left. So all items are those and the items of `rest`, and the handshake ends in `text` if it does in `rest`
pub record SoFar (text rest : List ℕ) (read : List Item) : Type 0 where
  pub items : items_of text ≡ read ++ items_of rest
  pub going : list_any ends_handshake (items_of text) ≡ list_any ends_handshake (items_of rest)

-- the items of a text are its first one and those of what is left, if the first doesn't end the handshake
some_at : (rest : List ℕ) (p : Item × List ℕ) → item_of rest ≡ Some p → ends_handshake p.0 ≡ false
    → items_of rest ≡ p.0 ∷ items_of p.1
some_at rest p e f = items_of-step rest ∙ ap (items_by items_of) e ∙ rw f refl

-- the items of a text are its first one alone if this ends the handshake
last_at : (rest : List ℕ) (p : Item × List ℕ) → item_of rest ≡ Some p → ends_handshake p.0 ≡ true
    → items_of rest ≡ p.0 ∷ []
last_at rest p e f = items_of-step rest ∙ ap (items_by items_of) e ∙ rw f refl

-- a text that begins with no item has none
pub none_at : (rest : List ℕ) → item_of rest ≡ None → items_of rest ≡ []
none_at rest e = items_of-step rest ∙ ap (items_by items_of) e

-- one item more was read, which doesn't end the handshake
pub so_far_more : (text rest : List ℕ) (items : List Item) (p : Item × List ℕ) → SoFar text rest items
    → item_of rest ≡ Some p → ends_handshake p.0 ≡ false → SoFar text p.1 (items ++ p.0 ∷ [])
so_far_more text rest items p s e f = record {
  items = s.items ∙ ap (λ (is : List Item). items ++ is) (some_at rest p e f)
      ∙ sym (append_assoc items (p.0 ∷ []) (items_of p.1));
  going = s.going ∙ ap (list_any ends_handshake) (some_at rest p e f) ∙ rw f refl;
}

-- an item was read that ends the handshake: the items are those so far and this one
pub so_far_done : (text rest : List ℕ) (items : List Item) (p : Item × List ℕ) → SoFar text rest items
    → item_of rest ≡ Some p → ends_handshake p.0 ≡ true
    → (items_of text ≡ items ++ p.0 ∷ []) × (list_any ends_handshake (items_of text) ≡ true)
so_far_done text rest items p s e f = (
  s.items ∙ ap (λ (is : List Item). items ++ is) (last_at rest p e f),
  s.going ∙ ap (list_any ends_handshake) (last_at rest p e f) ∙ rw f refl,
)

-- what is left begins with no item: the items are those so far
pub so_far_none : (text rest : List ℕ) (items : List Item) → SoFar text rest items → item_of rest ≡ None
    → (items_of text ≡ items) × (list_any ends_handshake (items_of text) ≡ false)
so_far_none text rest items s e = (
  s.items ∙ ap (λ (is : List Item). items ++ is) (none_at rest e) ∙ append-nil items,
  s.going
      ∙ ap (list_any ends_handshake) (none_at rest e),
)
