-- Tokens that are put into lines.
use Rattle.std.specs.Prelude.{ℕ, ◌+◌, Bool, not, ◌&&◌, List, [], ◌∷◌, ◌++◌, length, ◌==◌, nat_le, if◌then◌else◌}
use Rattle.byte_devices.specs.Bytes.{new_line, space}

-- ---- from left to right

-- the line begun with the text `line`, and those after it: each token goes on the line, after a space, if that then has
-- at most 79 characters; otherwise it begins the next one
abbrev pub lines_from : List ℕ → List (List ℕ) → List (List ℕ)
lines_from line [] = line ∷ []
lines_from line (t ∷ ts) =
    if nat_le (length (line ++ space ∷ t)) 79 then lines_from (line ++ space ∷ t) ts else line ∷ lines_from t ts

-- the lines of these tokens
abbrev pub lines_begun : List (List ℕ) → List (List ℕ)
lines_begun [] = []
lines_begun (t ∷ ts) = lines_from t ts

-- ---- by the bytes of the line that is begun, `column`; with 0 none is begun

-- the token fits on the line that is begun, with `column` bytes so far: a space and the token make it at most 79. False
-- for column 0
abbrev pub fits_line : ℕ → List ℕ → Bool
fits_line column token = not (column == 0) && nat_le (column + 1 + length token) 79

-- what ends a line with `column` bytes so far: `\n`, or nothing if no line is begun
abbrev pub line_close : ℕ → List ℕ
line_close column = if column == 0 then [] else new_line ∷ []

-- a token as it is added to a line with `column` bytes so far: after a space if it fits, otherwise on a new line after
-- `prefix`
abbrev pub wrapped_token : List ℕ → ℕ → List ℕ → List ℕ
wrapped_token prefix column token =
    if fits_line column token then space ∷ token else line_close column ++ (prefix ++ token)

-- how many bytes the line has once the token is added, without the prefix, if it has `column` before
abbrev pub next_column : ℕ → List ℕ → ℕ
next_column column token = if fits_line column token then column + 1 + length token else length token

-- ---- for all tokens

-- what is added to the text for all these tokens, if the line has `column` bytes before them: each after a space, or on
-- a new line after `prefix`
abbrev pub placed_all : List ℕ → ℕ → List (List ℕ) → List ℕ
placed_all prefix column [] = []
placed_all prefix column (t ∷ ts) = wrapped_token prefix column t ++ placed_all prefix (next_column column t) ts

-- how many bytes the last line has after all these tokens, if it has `column` before them
abbrev pub column_after_all : ℕ → List (List ℕ) → ℕ
column_after_all column [] = column
column_after_all column (t ∷ ts) = column_after_all (next_column column t) ts
