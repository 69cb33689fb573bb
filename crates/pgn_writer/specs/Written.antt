-- The lines of a game's text (PGN standard of 1994, sections 4.3, 8.1 and 8.2).
use Rattle.std.specs.Prelude.{ℕ, ◌||◌, List, [], ◌∷◌, ◌++◌, length, codes, ◌==◌, nat_le, reverse, if◌then◌else◌}
use Rattle.byte_devices.specs.Bytes.{byte, new_line, space}
use Rattle.std.specs.List.{flat_map, fold}

-- ---- tokens in lines

-- these lines, the last one first, with one token more: at the last line's end, after a space, if that line then has at
-- most 79 characters (sections 4.3, 8.2.1), otherwise on a new line
abbrev pub with_token : List (List ℕ) → List ℕ → List (List ℕ)
with_token [] token = token ∷ []
with_token (line ∷ earlier) token =
    if nat_le (length (line ++ space ∷ token)) 79 then (line ++ space ∷ token) ∷ earlier else token ∷ line ∷ earlier

-- the lines of these tokens, in order (`with_token`)
abbrev pub lines_of : List (List ℕ) → List (List ℕ)
lines_of tokens = reverse (fold with_token [] tokens)

-- ---- tags

-- a text with a backslash before each quote and backslash (section 7): `a\"b` for `a"b`
abbrev pub escaped : List ℕ → List ℕ
escaped text = flat_map (λ c. if c == byte "\"" || c == byte "\\" then byte "\\" ∷ c ∷ [] else c ∷ []) text

-- the line, without `\n`, of the tag with this name and this text, escaped: `[Event "a"]`
abbrev pub tag_line : List ℕ → List ℕ → List ℕ
tag_line name text = codes "[" ++ name ++ codes " \"" ++ escaped text ++ codes "\"]"

-- the text of these lines, each with `prefix` before it and `\n` after it
abbrev pub ended : List ℕ → List (List ℕ) → List ℕ
ended prefix lines = flat_map (λ line. prefix ++ line ++ new_line ∷ []) lines
