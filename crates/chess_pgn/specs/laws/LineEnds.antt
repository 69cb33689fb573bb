-- Where the line of a variation ends.
use Rattle.std.specs.Prelude.{ℕ, Bool, false, List, codes, take, drop}
use Rattle.std.specs.Str.{bytes_eq}
use Rattle.pgn_tokens.specs.Tokens.{Token, Bad}

-- whether a token, which begins at this offset of the text, ends a variation: it is a `)`, which can't be read as a
-- token
abbrev pub is_end : List ℕ → ℕ → Token → Bool
is_end text at Bad = bytes_eq (take 1 (drop at text)) (codes ")")
is_end text at _ = false
