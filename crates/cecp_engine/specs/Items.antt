-- The items of a `feature` line (CECP, version 2: section 9), and what they say. `x ← o` in a `do` is Rust's
-- `let x = o?`.
use Rattle.std.specs.Prelude.{ℕ, zero, suc, ◌+◌, ◌==◌, ◌&&◌, ◌||◌, nat_lt, Bool, true, false, not, if◌then◌else◌, List, [], ◌∷◌, length, take, drop, codes, Option, None, Some}
use Rattle.std.specs.List.{fold, list_all, list_any, slice_split, take_while}
use Rattle.std.specs.Option.{option_map_or}
use Rattle.std.specs.Str.{bytes_eq}
use Rattle.byte_devices.specs.Bytes.{byte, is_digit, is_blank, is_name_byte}
use Rattle.chess_base.specs.Options.{◌>>=◌}
use Rattle.text_lines.specs.Lines.{without_front_blanks}

-- ---- one item, `NAME=VALUE`

-- VALUE in an item `NAME=VALUE`: a text in double quotes, or digits without quotes
pub record Value : Type 0 where
  pub quoted : Bool
  -- the text without the quotes
  pub text : List ℕ

-- an item, `NAME=VALUE`
pub record Item : Type 0 where
  pub name : List ℕ
  pub value : Value

-- of a text after an opening quote: the value, up to the next quote, and the text after that quote; `None` if no quote
-- follows
abbrev pub quoted_value : List ℕ → Option (Value × List ℕ)
quoted_value text = let inside = take_while (λ b. not (b == byte "\"")) text in
    if nat_lt (length inside) (length text)
    then Some (record { quoted = true; text = inside }, drop (length inside + 1) text) else None

-- the value that a text begins with, and the text after this value; `None` if there is no value
abbrev pub value_of : List ℕ → Option (Value × List ℕ)
value_of [] = None
value_of (c ∷ cs) = let digits = take_while is_digit (c ∷ cs) in if c == byte "\"" then quoted_value cs
    else if is_digit c then Some (record { quoted = false; text = digits }, drop (length digits) (c ∷ cs)) else None

-- the item that a text begins with, such as `ping=1` or `myname="Sjeng"`, and the text after this item and any spaces
-- and tabs; `None` if there is no item. An item is a name of one or more letters, digits or `_`, then `=` and a value,
-- before a space, a tab or the text's end
unfoldable pub item_of : List ℕ → Option (Item × List ℕ)
item_of text = let name = take_while is_name_byte text in let rest = drop (length name) text in
    if length name == 0 || not (bytes_eq (take 1 rest) (codes "=")) then None else do
      (value, after) ← value_of (drop 1 rest)
      if list_all is_blank (take 1 after) then Some (record { name = name; value = value }, without_front_blanks after)
          else None

-- ---- the items of a line

-- whether a value is just `1`, without quotes
abbrev pub is_one : Value → Bool
is_one v = not v.quoted && bytes_eq v.text (codes "1")

-- whether an item is `done=1`, which ends the handshake
abbrev pub ends_handshake : Item → Bool
ends_handshake i = bytes_eq i.name (codes "done") && is_one i.value

-- the items that a text begins with, at most n (the first argument), up to `done=1` (included) or what is no item
abbrev pub first_items : ℕ → List ℕ → List Item
first_items zero text = []
first_items (suc n) text =
    option_map_or (λ p. if ends_handshake p.0 then p.0 ∷ [] else p.0 ∷ first_items n p.1) (item_of text) []

-- the items of the text after `feature`, up to `done=1` (included) or a malformed item. There are no more items than
-- bytes, so the limit cuts off none
unfoldable pub items_of : List ℕ → List Item
items_of text = first_items (length text) text

-- ---- what an engine says by its items

-- `f` of the value of the last item with this name; `default` if there is no such item
abbrev pub last_said : {A : Type 0} → (Value → A) → A → List ℕ → List Item → A
last_said f default name items = fold (λ before i. if bytes_eq i.name name then f i.value else before) default items

-- whether an engine that sent these items has the feature `name` on: the last item of that name is 1, without quotes.
-- Without such an item only `time` and `draw` are on: CECP's defaults for the features that a match uses
unfoldable pub takes : List ℕ → List Item → Bool
takes name items = last_said is_one (bytes_eq name (codes "time") || bytes_eq name (codes "draw")) name items

-- whether `text`, such as `normal,fischerandom`, has this word; commas, spaces and tabs separate words
unfoldable pub has_word : List ℕ → List ℕ → Bool
has_word word text = list_any (λ piece. bytes_eq piece word) (slice_split (λ c. is_blank c || (c == byte ",")) text)

-- whether an engine that sent these items plays Chess960: its last item `variants` has the word `fischerandom`, or it
-- sent no such item (CECP then assumes all variants)
unfoldable pub plays_fischerandom : List Item → Bool
plays_fischerandom items = last_said (λ v. has_word (codes "fischerandom") v.text) true (codes "variants") items

-- ---- the answer to an item

-- whether the arbiter answers a feature of this name by `accepted` (otherwise by `rejected`). It uses those of the
-- first list; those of the second are accepted and ignored
unfoldable pub is_known : List ℕ → Bool
is_known name = has_word name (codes "ping setboard san usermove time draw myname variants done")
    || has_word name (codes "playother sigint sigterm reuse analyze colors debug")
