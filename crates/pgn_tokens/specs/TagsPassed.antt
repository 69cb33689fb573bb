-- Passing over a game's tags.
use Rattle.std.specs.Prelude.{◌≡◌, ℕ, List, length, drop}
use Rattle.pgn_tokens.specs.LastTags.{tag_section}
use Rattle.pgn_tokens.specs.Tokens.{Token, tokens_from}

-- a game's tokens after its tag section
abbrev pub after_tags : List (ℕ × Token) → List (ℕ × Token)
after_tags tokens = drop (length (tag_section tokens)) tokens

-- after the tag section of the game at the offset `at`, the text's tokens are those from the offset `after` on
abbrev pub IsAfterTags : List ℕ → ℕ → ℕ → Type 0
IsAfterTags text at after = after_tags (tokens_from text at) ≡ tokens_from text after
