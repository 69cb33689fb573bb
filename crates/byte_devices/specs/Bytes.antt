-- Names of bytes, kinds of bytes, and a byte as it is shown.
use Prim.Native.String.{String as Text}
use Rattle.std.specs.Prelude.{ℕ, ◌==◌, Bool, ◌&&◌, ◌||◌, if◌then◌else◌, List, [], ◌∷◌, take, nat_le, nat_lt, codes, slice_index_or, Option, Some, None}
use Rattle.std.specs.Str.{bytes_eq}

-- the code of a text's first character, 0 for the empty text: `byte "A"` is 65
abbrev pub byte : Text → ℕ
byte text = slice_index_or (codes text) 0 0

-- line feed, byte 10
abbrev pub new_line : ℕ
new_line = 10

-- carriage return, byte 13
abbrev pub carriage_return : ℕ
carriage_return = 13

-- tab, byte 9
abbrev pub tab : ℕ
tab = 9

-- the space, byte 32
abbrev pub space : ℕ
space = byte " "

-- ---- kinds of bytes

-- byte c is a letter, A to Z or a to z
abbrev pub is_letter : ℕ → Bool
is_letter c = (nat_le (byte "A") c && nat_le c (byte "Z")) || (nat_le (byte "a") c && nat_le c (byte "z"))

-- byte c is a digit, `0` to `9`
abbrev pub is_digit : ℕ → Bool
is_digit c = nat_le (byte "0") c && nat_le c (byte "9")

-- whether a byte is a space or a tab
abbrev pub is_blank : ℕ → Bool
is_blank c = (c == space) || (c == tab)

-- whether a byte may be in a name, as of a PGN tag or a CECP feature: a letter, a digit or `_`
abbrev pub is_name_byte : ℕ → Bool
is_name_byte c = is_letter c || (is_digit c || c == byte "_")

-- ---- texts

-- a byte as tags and logs show it: `?` for all but printable ASCII (32 to 126)
abbrev pub shown_byte : ℕ → ℕ
shown_byte c = if nat_lt c 32 || nat_lt 126 c then byte "?" else c

-- the rest of a text after its first byte `b`; `None` if it doesn't begin with `b`
abbrev pub after_byte : ℕ → List ℕ → Option (List ℕ)
after_byte b [] = None
after_byte b (c ∷ rest) = if c == b then Some rest else None

-- the index where reading from `at` begins: 3 if `at` is 0 and the text begins with a byte order mark (EF BB BF),
-- otherwise `at`
abbrev pub after_byte_order_mark : List ℕ → ℕ → ℕ
after_byte_order_mark text at = if (at == 0) && bytes_eq (take 3 text) (239 ∷ 187 ∷ 191 ∷ []) then 3 else at
