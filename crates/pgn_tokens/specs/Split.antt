-- How a game's text is split into tokens (PGN standard of 1994, sections 5 to 8.2). This project's own: a word's bytes;
-- `$` without digits; `%` lines in tags and variations; in a string, tabs, more than 255 bytes, and a backslash before
-- any byte.
use Rattle.std.specs.Prelude.{◌≡◌, ℕ, ◌+◌, ◌-◌, ◌<◌, ◌≤◌, Bool, true, false, not, ◌&&◌, ◌||◌, List, [], ◌∷◌, ◌++◌, length, drop, codes, ◌==◌}
use Rattle.std.specs.List.{list_all, list_any}
use Rattle.byte_devices.specs.Bytes.{is_digit, byte, new_line, is_name_byte}
use Rattle.pgn_tokens.specs.Tokens.{Token, Skip, Tag, Word, Bad_tag, Unclosed_comment, Unclosed_variation, Bad, is_white_space, is_word_byte, begins_line}

-- ---- bytes

-- whether the byte b is not in the text
abbrev pub lacks : ℕ → List ℕ → Bool
lacks b text = list_all (λ c. not (c == b)) text

-- whether a line is skipped from byte c on: c is `;` (section 5), or `%` and begins it (`line_begins`, section 6)
abbrev pub skips_line : Bool → ℕ → Bool
skips_line line_begins c = line_begins && c == byte "%" || c == byte ";"

-- ---- variations (section 8.2.5)

-- the text may be between a variation's `(` and `)`, as in `4. Ng5 d5 (4... Bc5)`: nothing, or a part below and then
-- `more`. `b`: whether the text's first byte begins a line, as after `\n`, and not after `(`, `)` or `}`
pub data IsInside : Bool → List ℕ → Type 0 where
  nothing : {b : Bool} → IsInside b []
  -- a `%` line or `;` comment with its `\n`
  line : {b : Bool} {c : ℕ} (text : List ℕ) {more : List ℕ} → skips_line b c ≡ true → lacks new_line text ≡ true
      → IsInside true more → IsInside b (c ∷ text ++ new_line ∷ more)
  -- a `{` comment
  comment : {b : Bool} (text : List ℕ) {more : List ℕ} → lacks (byte "}") text ≡ true → IsInside false more
      → IsInside b (byte "{" ∷ text ++ byte "}" ∷ more)
  -- a variation
  variation : {b : Bool} {inner more : List ℕ} → IsInside false inner → IsInside false more
      → IsInside b (byte "(" ∷ inner ++ byte ")" ∷ more)
  -- any byte that begins none of these and is no `)`
  other : {b : Bool} {c : ℕ} {more : List ℕ} → skips_line b c ≡ false → list_any (λ k. c == k) (codes "{()") ≡ false
      → IsInside (c == new_line) more → IsInside b (c ∷ more)

-- ---- tags (section 8.1), as `[Event "a"]`: an opening (`[Event "`), the string (`a`), and a closing (`"]`)

-- the text may be between two parts of a tag: white space and `%` lines, or nothing. `b`: its first byte begins a line
pub data IsGap : Bool → List ℕ → Type 0 where
  nothing : {b : Bool} → IsGap b []
  -- a byte of white space, then more
  blank : {b : Bool} {c : ℕ} {more : List ℕ} → is_white_space c ≡ true → IsGap (c == new_line) more → IsGap b (c ∷ more)
  -- a `%` line with its `\n`, then more
  line : (text : List ℕ) {more : List ℕ} → lacks new_line text ≡ true → IsGap true more
      → IsGap true (byte "%" ∷ text ++ new_line ∷ more)

-- the text opens a tag with this name, as `[Event "` does: `[`, a gap, the name (letters, digits and `_`), a gap, a
-- quote. A gap (`IsGap`) may be empty and begins no line (`false`)
pub data OpensTag (name : List ℕ) : List ℕ → Type 0 where
  opens : {before after : List ℕ} → IsGap false before → 0 < length name → list_all is_name_byte name ≡ true
      → IsGap false after → OpensTag name (byte "[" ∷ (before ++ (name ++ (after ++ codes "\""))))

-- the text may be between a string's quotes (section 7), as `a\"b`; a backslash keeps the next byte from ending it
pub data IsString : List ℕ → Type 0 where
  nothing : IsString []
  -- a backslash and the byte that it keeps, not `\n`
  kept : {c : ℕ} {more : List ℕ} → (c == new_line) ≡ false → IsString more → IsString (byte "\\" ∷ c ∷ more)
  -- any byte but backslashes, quotes and `\n`
  char : {c : ℕ} {more : List ℕ} → list_any (λ k. c == k) (codes "\\\"\n") ≡ false → IsString more → IsString (c ∷ more)

-- ---- tokens

-- these bytes, all of them, are this token (that no longer one is there, `IsSplit` asks). `b`: the first begins a line;
-- `left`: how many bytes follow, to the end of the text that is split
pub data IsToken (b : Bool) (left : ℕ) : List ℕ → Token → Type 0 where
  -- a byte of white space, or a dot
  blank : {c : ℕ} → (is_white_space c || c == byte ".") ≡ true → IsToken b left (c ∷ []) Skip
  -- a `%` line or `;` comment, without its `\n`
  line : {c : ℕ} {text : List ℕ} → skips_line b c ≡ true → lacks new_line text ≡ true → IsToken b left (c ∷ text) Skip
  comment : (text : List ℕ) → lacks (byte "}") text ≡ true → IsToken b left (byte "{" ∷ text ++ byte "}" ∷ []) Skip
  -- a numeric annotation glyph: `$` and digits, maybe none
  glyph : {digits : List ℕ} → list_all is_digit digits ≡ true → IsToken b left (byte "$" ∷ digits) Skip
  variation : {inner : List ℕ} → IsInside false inner → IsToken b left (byte "(" ∷ inner ++ byte ")" ∷ []) Skip
  -- an opening, a string, a closing. The tag's `to_end` counts the bytes from the string on
  tag : {name opening string gap closing : List ℕ} → OpensTag name opening → IsString string → IsGap false gap
      → closing ≡ byte "\"" ∷ (gap ++ codes "]")
      → IsToken b left (opening ++ (string ++ closing)) (Tag name string (length (string ++ closing) + left))
  asterisk : IsToken b left (codes "*") (Word (codes "*"))
  -- a word, in PGN a symbol
  word : {text : List ℕ} → 0 < length text → list_all is_word_byte text ≡ true → IsToken b left text (Word text)

-- at the offset `at` the text has `front`, which is the token `t`
abbrev pub IsTokenAt : List ℕ → ℕ → List ℕ → Token → Type 0
IsTokenAt text at front t =
    (rest : List ℕ) × (drop at text ≡ front ++ rest) × IsToken (begins_line text at) (length rest) front t

-- ---- what can't be read

-- the text after a variation's `(` has an unclosed comment; the number counts the bytes from its `{` to the text's end,
-- 2 in `d4 {a`. Before the comment are only whole parts (`IsInside`) and `(`s
pub data HasOpenComment : List ℕ → ℕ → Type 0 where
  -- after whole parts, a comment without its `}`
  here : {parts : List ℕ} (text : List ℕ) → IsInside false parts → lacks (byte "}") text ≡ true
      → HasOpenComment (parts ++ byte "{" ∷ text) (length (byte "{" ∷ text))
  -- the comment is in a variation after whole parts
  deeper : {parts inner : List ℕ} {to_end : ℕ} → IsInside false parts → HasOpenComment inner to_end
      → HasOpenComment (parts ++ byte "(" ∷ inner) to_end

-- this token is the fault of the text, which begins with no token: its first byte decides, and after `(` whether a
-- comment inside isn't closed
pub data IsFaultOf : List ℕ → Token → Type 0 where
  comment : {text : List ℕ} → IsFaultOf (byte "{" ∷ text) (Unclosed_comment (length (byte "{" ∷ text)))
  -- a comment in the variation isn't closed
  inner_comment : {text : List ℕ} {n : ℕ} → HasOpenComment text n → IsFaultOf (byte "(" ∷ text) (Unclosed_comment n)
  -- the variation isn't closed, and all comments in it are
  variation : {text : List ℕ} → ((n : ℕ) → HasOpenComment text n → ⊥) → IsFaultOf (byte "(" ∷ text) Unclosed_variation
  tag : {text : List ℕ} → IsFaultOf (byte "[" ∷ text) Bad_tag
  other : {c : ℕ} {text : List ℕ} → list_any (λ k. c == k) (codes "{([") ≡ false → IsFaultOf (c ∷ text) Bad

-- ---- the split

-- the text is split from the offset `at` on into these tokens, each paired with how many bytes are left at it: `e4 *`
-- from 0 on into `(4, Word e4)`, `(2, Skip)`, `(1, Word *)`
pub data IsSplit (text : List ℕ) : ℕ → List (ℕ × Token) → Type 0 where
  ended : {at : ℕ} → drop at text ≡ [] → IsSplit text at []
  -- the longest token there, then the tokens after it
  token : {at : ℕ} {front : List ℕ} {t : Token} {tokens : List (ℕ × Token)} → IsTokenAt text at front t
      → ((other : List ℕ) (u : Token) → IsTokenAt text at other u → length other ≤ length front)
      → IsSplit text (at + length front) tokens → IsSplit text at ((length text - at, t) ∷ tokens)
  -- the fault, if no token begins at `at`
  stopped : {at : ℕ} {fault : Token} → ((front : List ℕ) (t : Token) → IsTokenAt text at front t → ⊥)
      → IsFaultOf (drop at text) fault → IsSplit text at ((length text - at, fault) ∷ [])
