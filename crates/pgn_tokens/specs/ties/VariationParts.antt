-- A variation part by part, a part being what the code skips at once: a comment, a `%` line or a byte.
use Rattle.std.specs.Prelude.{ℕ, zero, suc, ◌+◌, Bool, ◌&&◌, ◌||◌, List, Option, Some, None, ◌==◌, if◌then◌else◌}
use Rattle.byte_devices.specs.Bytes.{byte}
use Rattle.pgn_tokens.specs.Tokens.{line_end, after_brace}

-- the text after the byte `c` inside a variation, or after what it begins: a `%` line or `;` comment (the text goes on
-- at its `\n`) or a `{` comment; `None` if that `{` comment isn't closed. `rest` is the text after `c`; `line_begins`:
-- `c` is the first byte of its line
abbrev pub after_part : Bool → ℕ → List ℕ → Option (List ℕ)
after_part line_begins c rest = if line_begins && c == byte "%"
    || c == byte ";" then Some (line_end rest) else (if c == byte "{" then after_brace rest else Some rest)

-- one less than a number; `None` for 0
abbrev pub one_fewer : ℕ → Option ℕ
one_fewer zero = None
one_fewer (suc n) = Some n

-- how many variations are open inside the outermost one after the byte `c`, where `depth` were open before it; `None`
-- if `c` closes the outermost
abbrev pub depth_after : ℕ → ℕ → Option ℕ
depth_after depth c = if c == byte "(" then Some (depth + 1) else
    (if c == byte ")" then one_fewer depth else Some depth)
