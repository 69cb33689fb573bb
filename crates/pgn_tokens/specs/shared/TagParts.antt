-- A tag by its parts, each with what is left after it.
use Rattle.std.specs.Prelude.{ℕ, List, [], ◌∷◌, length, drop, Option, Some, None}
use Rattle.std.specs.List.{prefix_len, take_while}
use Rattle.byte_devices.specs.Bytes.{byte, is_name_byte}
use Rattle.pgn_tokens.specs.Tokens.{Token, Tag, Bad_tag, after_gap, after_next, string_at}

-- the tag with this name and text, and the text after its `]` (the last argument); `Bad_tag` if that is `None`, as
-- there is no `]`. `to_end`: how many bytes the text has after the string's opening quote
abbrev pub closed : List ℕ → ℕ → List ℕ → Option (List ℕ) → Token × List ℕ
closed name to_end text None = (Bad_tag, [])
closed name to_end text (Some rest) = (Tag name text to_end, rest)

-- the tag with this name, and the text after it. `found`: its string's bytes and the text after the closing quote;
-- `Bad_tag` and an empty text if that is `None`, or no `]` follows. `to_end` as in `closed`
abbrev pub with_text : List ℕ → ℕ → Option (List ℕ × List ℕ) → Token × List ℕ
with_text name to_end None = (Bad_tag, [])
with_text name to_end (Some found) = closed name to_end found.0 (after_next (byte "]") found.1)

-- the tag with this name, and the text after it, from `after_quote`, the text after its opening quote. `Bad_tag` and an
-- empty text if there is no such quote (`None`), or no string, closing quote and `]` follow
abbrev pub with_string : List ℕ → Option (List ℕ) → Token × List ℕ
with_string name None = (Bad_tag, [])
with_string name (Some after_quote) = with_text name (length after_quote) (string_at after_quote)

-- the tag with this name, and the text after it, from the text after the name; `Bad_tag` and an empty text if the name
-- is empty, or the rest is not a tag's
abbrev pub with_tag_name : List ℕ → List ℕ → Token × List ℕ
with_tag_name [] rest = (Bad_tag, [])
with_tag_name (n ∷ ns) rest = with_string (n ∷ ns) (after_next (byte "\"") rest)

-- the tag of the text after a `[`, and the text after its `]`; `Bad_tag` and an empty text if this is no tag
abbrev pub tag_by_parts : List ℕ → Token × List ℕ
tag_by_parts text = let inner = after_gap text in with_tag_name (take_while is_name_byte inner)
    (drop (prefix_len is_name_byte inner) inner)
