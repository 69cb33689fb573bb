-- Which tokens are variations (PGN standard of 1994, section 8.2.5).
use Rattle.std.specs.Prelude.{ℕ, ◌-◌, Bool, false, List, length, slice_index, ◌==◌}
use Rattle.std.specs.List.{list_any}
use Rattle.byte_devices.specs.Bytes.{byte}
use Rattle.pgn_tokens.specs.Tokens.{Token, Skip}

-- whether a token at the offset `at` of the text is a variation: it is `Skip`, and the text has `(` there
abbrev pub is_variation : List ℕ → ℕ → Token → Bool
is_variation text at Skip = slice_index text at == byte "("
is_variation text at _ = false

-- whether one of the text's tokens, each paired with the length of the text from it on, is a variation
abbrev pub has_variation : List ℕ → List (ℕ × Token) → Bool
has_variation text tokens = list_any (λ t. is_variation text (length text - t.0) t.1) tokens
