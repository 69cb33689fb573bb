-- The line and column of a byte of a text, counted from 1. A column counts bytes; offsets begin at 0.
use Rattle.std.specs.Prelude.{ℕ, ◌+◌, ◌==◌, Bool, ◌||◌, not, List, take}
use Rattle.std.specs.List.{count_by, suffix_len}

-- whether a byte ends a line for columns and for the cutting of collections: `\n`, or `\r`, as in some old files
abbrev pub breaks_line : ℕ → Bool
breaks_line c = (c == 10) || (c == 13)

-- how many numbered lines end in a text: how often it has `\n`
abbrev pub line_ends : List ℕ → ℕ
line_ends text = count_by (λ c. c == 10) text

-- the line of the byte at this offset of a text: 1 plus the number of `\n` before it
abbrev pub line_of : List ℕ → ℕ → ℕ
line_of text offset = count_by (λ c. c == 10) (take offset text) + 1

-- the column of the byte at this offset of a text: 1 at the text's beginning and right after each `\n` or `\r`
abbrev pub column_of : List ℕ → ℕ → ℕ
column_of text offset = suffix_len (λ c. not (breaks_line c)) (take offset text) + 1
