-- Where the strings and comments that a token names are.
use Rattle.std.specs.Prelude.{ℕ, ◌≤◌, length}
use Rattle.pgn_tokens.specs.Tokens.{Token, Skip, Tag, Word, Bad_tag, Unclosed_comment, Unclosed_variation, Bad}

-- `to_end` bytes of the text are left at a token: then at its string or unclosed comment at most so many are left, and
-- its word has at most so many
abbrev pub IsWithin : ℕ → Token → Type 0
IsWithin to_end Skip = Unit {0}
IsWithin to_end (Tag name text string) = string ≤ to_end
IsWithin to_end (Word word) = length word ≤ to_end
IsWithin to_end Bad_tag = Unit {0}
IsWithin to_end (Unclosed_comment brace) = brace ≤ to_end
IsWithin to_end Unclosed_variation = Unit {0}
IsWithin to_end Bad = Unit {0}
