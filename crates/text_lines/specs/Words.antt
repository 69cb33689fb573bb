-- The words and the numbers of a line.
use Rattle.std.specs.Prelude.{ℕ, ◌&&◌, nat_lt, nat_le, if◌then◌else◌, List, [], ◌∷◌, length, drop, Option, Some, None}
use Rattle.std.specs.List.{list_all}
use Rattle.std.specs.Str.Parse.{digits_value}
use Rattle.byte_devices.specs.Bytes.{is_blank, is_digit}
use Rattle.text_lines.specs.Lines.{without_front_blanks}

-- a text's first word: its bytes before the first space or tab, or else all; maybe none
abbrev pub word_of : List ℕ → List ℕ
word_of [] = []
word_of (c ∷ cs) = if is_blank c then [] else c ∷ word_of cs

-- what follows a text's first word and the spaces and tabs after it: `e4` in `usermove e4`
unfoldable pub argument_of : List ℕ → List ℕ
argument_of text = without_front_blanks (drop (length (word_of text)) text)

-- the number that a text of 1 to `most` decimal digits denotes, as 7 for `007`; `None` for any other text
abbrev pub short_number : ℕ → List ℕ → Option ℕ
short_number most text = if nat_lt 0 (length text) && nat_le (length text) most
    && list_all is_digit text then Some (digits_value 10 text) else None

-- `short_number` of at most 9 digits, such as the `7` of `ping 7`
unfoldable pub command_number : List ℕ → Option ℕ
command_number text = short_number 9 text
