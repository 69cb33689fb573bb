-- The tokens of a game's text (PGN standard of 1994, sections 5 to 7 and 8.2). This project's own: what the head of
-- specs/Split names, and that a byte order mark (EF BB BF) at offset 0 is skipped.
use Rattle.std.specs.Prelude.{ℕ, zero, suc, ◌-◌, Bool, false, not, ◌&&◌, ◌||◌, List, [], ◌∷◌, ◌++◌, length, take, drop, slice_index, Option, Some, None, codes, ◌==◌, if◌then◌else◌, option_and_then}
use Rattle.byte_devices.specs.Bytes.{is_digit, byte, carriage_return, new_line, space, tab, is_name_byte, after_byte}
use Rattle.std.specs.List.{list_all, list_any, join_with_byte, prefix_len, position_or_len, take_while}
use Rattle.std.specs.Option.{option_map, option_map_or, unwrap_or}
use Rattle.std.specs.Str.{bytes_eq}
use Rattle.text_lines.specs.Lines.{parts}

-- a token (section 7). `to_end` counts the bytes from where its case says to the text's end
pub data Token : Type 0 where
  -- a byte of white space, a dot, a comment, a `%` line, a glyph such as `$1`, or a variation
  Skip : Token
  -- a name, the bytes between the quotes as they are, and `to_end` from after the first quote: `[Event "a"]` at a
  -- text's end is `Tag Event a 3`
  Tag : (name : List ℕ) (text : List ℕ) (to_end : ℕ) → Token
  -- such as a move, a number or a result
  Word : (bytes : List ℕ) → Token
  -- a `[` that begins no tag
  Bad_tag : Token
  -- a comment without its `}`; `to_end` counts from its `{`
  Unclosed_comment : (to_end : ℕ) → Token
  -- a variation without its `)`, its comments closed
  Unclosed_variation : Token
  -- a byte that begins no token
  Bad : Token

-- ---- bytes

-- whether a byte is a space, a tab, `\n` or `\r`
abbrev pub is_white_space : ℕ → Bool
is_white_space c = c == space || (c == tab || (c == new_line || c == carriage_return))

-- whether a byte may be in a word (`Nf3+`, `O-O`, `1/2-1/2`): a byte of PGN's symbols (section 7), or this project's
-- own `/`, `!` or `?`
abbrev pub is_word_byte : ℕ → Bool
is_word_byte c = is_name_byte c || list_any (λ b. c == b) (codes "+#=-/!?:")

-- ---- what is skipped

-- the text from the end of its first line on: `\ncd` of `ab\ncd`; empty if no line ends
abbrev pub line_end : List ℕ → List ℕ
line_end text = drop (position_or_len (λ c. c == new_line) text) text

-- the text after its first `}`, which ends a comment (section 5); `None` without one
abbrev pub after_brace : List ℕ → Option (List ℕ)
after_brace [] = None
after_brace (c ∷ rest) = if c == byte "}" then Some rest else after_brace rest

-- the text after the white space at its front
abbrev pub after_white_space : List ℕ → List ℕ
after_white_space text = drop (prefix_len is_white_space text) text

-- whether a line in a *gap* (white space and `%` lines between a tag's parts) is skipped whole: a `%` line (section 6)
-- or only white space
abbrev pub is_gap_line : List ℕ → Bool
is_gap_line line = bytes_eq (take 1 line) (codes "%") || list_all is_white_space line

-- what is left of these lines (each without its `\n`), as a text, after those at the front that are skipped whole, and
-- then white space
unfoldable pub after_gap_lines : List (List ℕ) → List ℕ
after_gap_lines lines = after_white_space (join_with_byte new_line (drop (prefix_len is_gap_line lines) lines))

-- the text after the gap at its front. The text begins inside a line, as after a tag's `[`, so a `%` at its front is
-- left; if the rest of that line is white space, the gap continues in the next lines
abbrev pub after_gap : List ℕ → List ℕ
after_gap text =
    if list_all is_white_space (take_while (λ c. not (c == new_line)) text) then after_gap_lines (drop 1 (parts text))
    else after_white_space text

-- ---- variations

-- a variation's token and the text after it, from a text inside it. The third argument: how many variations are open
-- there, 1 after its `(`. `comment`: if the text begins in a comment or `%` line, the byte that ends that, and the
-- token to give if it doesn't come; `line_begins`: the text's first byte begins a line
abbrev pub variation_at : Option (ℕ × Token) → Bool → ℕ → List ℕ → Token × List ℕ
-- the variation's `)` was read
variation_at comment line_begins zero text = (Skip, text)
variation_at comment line_begins (suc depth) [] = (option_map_or (λ skipped. skipped.1) comment Unclosed_variation, [])
-- a byte of a comment or `%` line
variation_at (Some comment) line_begins (suc depth) (c ∷ rest) =
    variation_at (if c == comment.0 then None else Some comment) (c == new_line) (suc depth) rest
variation_at None line_begins (suc depth) (c ∷ rest) =
    if line_begins && c == byte "%" || c == byte ";"
    then variation_at (Some (new_line, Unclosed_variation)) false (suc depth) rest
    else (if c == byte "{" then variation_at (Some (byte "}", Unclosed_comment (length (c ∷ rest)))) false
    (suc depth) rest
    else (if c == byte "(" then variation_at None false (suc (suc depth)) rest
    else (if c == byte ")" then variation_at None false depth rest
    else variation_at None (c == new_line) (suc depth) rest)))

-- ---- tags

-- a string (its bytes, and the text after it) with `front` before its bytes; `None` if none was found
abbrev pub onto : List ℕ → Option (List ℕ × List ℕ) → Option (List ℕ × List ℕ)
onto front string = option_map (λ found. (front ++ found.0, found.1)) string

-- from the text after a string's opening quote: its bytes, and the text after its closing quote; `None` if the line or
-- text ends first. A backslash keeps the next byte from ending it: `a\"b"]` gives `a\"b` and `]`
abbrev pub string_at : List ℕ → Option (List ℕ × List ℕ)
string_at [] = None
string_at (c ∷ []) = if c == byte "\"" then Some ([], []) else None
string_at (c ∷ d ∷ rest) =
    if c == byte "\"" then Some ([], d ∷ rest)
    else (if c == new_line then None
    else (if c == byte "\\" then (if d == new_line then None else onto (c ∷ d ∷ []) (string_at rest))
    else onto (c ∷ []) (string_at (d ∷ rest))))

-- the text after the gap at its front and then the byte `b`; `None` if another byte comes there
abbrev pub after_next : ℕ → List ℕ → Option (List ℕ)
after_next b text = after_byte b (after_gap text)

-- a tag's name at the text's front, of letters, digits and `_`, and the text after it; `None` without a name
abbrev pub name_at : List ℕ → Option (List ℕ × List ℕ)
name_at text = let name = take_while is_name_byte text in
    if length name == 0 then None else Some (name, drop (length name) text)

infixl 10 ◌>>=◌
-- `f` of the value in `o`; `None` if `o` is `None`
abbrev pub ◌>>=◌ : {A B : Type 0} → Option A → (A → Option B) → Option B
o >>= f = option_and_then f o

-- from the text after `[`: a tag, maybe with gaps between its parts, and the text after its `]`; `None` if it is no tag
abbrev pub tag_at : List ℕ → Option (Token × List ℕ)
tag_at text = do
  name ← name_at (after_gap text)
  after_quote ← after_next (byte "\"") name.1
  inside ← string_at after_quote
  rest ← after_next (byte "]") inside.1
  Some (Tag name.0 inside.0 (length after_quote), rest)

-- ---- tokens

-- a `{` comment's token and the text after it. `after`: the text after its `}`, if any; `to_end`: how many bytes come
-- from its `{` on
abbrev pub comment_at : ℕ → Option (List ℕ) → Token × List ℕ
comment_at to_end after = option_map_or (λ rest. (Skip, rest)) after (Unclosed_comment to_end, [])

-- the first token of `c ∷ rest`, and the text after it, empty after one that can't be read. `line_begins`: `c` begins a
-- line
unfoldable pub token_at : Bool → ℕ → List ℕ → Token × List ℕ
token_at line_begins c rest =
    if line_begins && c == byte "%" then (Skip, line_end rest)
    else (if is_white_space c || c == byte "." then (Skip, rest)
    else (if c == byte "{" then comment_at (length (c ∷ rest)) (after_brace rest)
    else (if c == byte ";" then (Skip, line_end rest)
    else (if c == byte "$" then (Skip, drop (prefix_len is_digit rest) rest)
    else (if c == byte "(" then variation_at None false 1 rest
    else (if c == byte "[" then unwrap_or (tag_at rest) (Bad_tag, [])
    else (if c == byte "*" then (Word (c ∷ []), rest)
    else (if is_word_byte c
    then (Word (take_while is_word_byte (c ∷ rest)), drop (prefix_len is_word_byte (c ∷ rest)) (c ∷ rest))
    else (Bad, [])))))))))

-- a text's tokens in order, each paired with how many bytes are left at it; one that can't be read is the last.
-- `line_begins`: the text's first byte begins a line, as after the token `\n`; no other token ends with `\n`. `most`:
-- at most so many tokens are read
unfoldable pub tokens_of : ℕ → Bool → List ℕ → List (ℕ × Token)
tokens_of zero line_begins text = []
tokens_of (suc most) line_begins [] = []
tokens_of (suc most) line_begins (c ∷ rest) =
    let t = token_at line_begins c rest in (length (c ∷ rest), t.0) ∷ tokens_of most (c == new_line) t.1

-- ---- a text from an offset on

-- whether a line of the text begins at this offset: at 0 and after `\n`, not after a byte order mark or `\r`
abbrev pub begins_line : List ℕ → ℕ → Bool
begins_line text offset = (offset == 0) || (slice_index text (offset - 1) == new_line)

-- a text's tokens from an offset on, each paired with how many bytes are left at it. A token takes at least a byte, so
-- the text's length is enough for `most`
unfoldable pub tokens_from : List ℕ → ℕ → List (ℕ × Token)
tokens_from text offset = tokens_of (length text) (begins_line text offset) (drop offset text)
