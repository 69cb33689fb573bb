-- Parts of the definitions of a line's kind, as the code asks for them: by a line's first byte and front, or from a
-- tag's opening quote on.
use Rattle.std.specs.Prelude.{ℕ, Bool, false, ◌||◌, ◌==◌, List, take, drop, codes, Option}
use Rattle.std.specs.List.{list_all, position_or_len}
use Rattle.std.specs.Option.{option_map}
use Rattle.std.specs.Str.{bytes_eq}
use Rattle.pgn_pieces.specs.Pieces.{drop_while, from_quote}
use Rattle.byte_devices.specs.Bytes.{byte, is_blank, after_byte}

-- a text without the spaces and tabs at its beginning
abbrev pub without_blanks : List ℕ → List ℕ
without_blanks text = drop_while is_blank text

-- whether a line with this first byte (`[]` if it has none) and this front counts as empty
abbrev pub is_empty_with : List ℕ → List ℕ → Bool
is_empty_with first front = bytes_eq first (codes "%") || bytes_eq (take 1 front) (codes ";")
    || list_all (λ c. is_blank c || (c == 13) || (c == 10)) front

-- a text from its first quote or backslash on; empty if it has neither
abbrev pub from_mark : List ℕ → List ℕ
from_mark text = drop (position_or_len (λ c. c == byte "\"" || (c == byte "\\" || c == byte "\\")) text) text

-- what comes after a tag's string and any spaces and tabs, where `value` is the text from the string's opening quote
-- on: `] e4` for `"Oslo" ] e4`; empty if the string isn't closed
abbrev pub behind_string : List ℕ → List ℕ
behind_string value = without_blanks (drop 1 (from_quote false (drop 1 value)))

-- what comes after a tag and any spaces and tabs, where `value` is the text from its opening quote on: `e4` for
-- `"Oslo"] e4`; `None` if the tag isn't closed
abbrev pub after_value : List ℕ → Option (List ℕ)
after_value value = option_map without_blanks (after_byte (byte "]") (behind_string value))
