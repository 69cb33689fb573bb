-- The gap between two parts of a tag, byte by byte.
use Rattle.std.specs.Prelude.{ℕ, Bool, true, false, not, ◌&&◌, List, [], ◌∷◌, ◌==◌, if◌then◌else◌}
use Rattle.byte_devices.specs.Bytes.{byte, new_line}
use Rattle.pgn_tokens.specs.Tokens.{is_white_space}

-- the text after the white space and `%` lines at its front. `skips`: its first byte is inside a `%` line already;
-- `begins`: that byte is the first of its line
abbrev pub gap_left : Bool → Bool → List ℕ → List ℕ
gap_left skips begins [] = []
gap_left true begins (c ∷ rest) = gap_left (not (c == new_line)) true rest
gap_left false begins (c ∷ rest) =
    if begins && c == byte "%" then gap_left true false rest
    else (if is_white_space c then gap_left false (c == new_line) rest else c ∷ rest)
