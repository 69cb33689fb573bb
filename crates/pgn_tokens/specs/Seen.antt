-- What the code's reader of tokens returns, in the definitions' types.
use Rattle.std.specs.Prelude.{◌≡◌, ℕ, ◌-◌, ◌<◌, ◌≤◌, List, [], ◌∷◌, ◌++◌, length, map, Option, Some, None, Result, Ok, Err}
use Rattle.std.specs.Option.{option_map}
use Rattle.pgn_tokens.specs.declared.tag.Tag.{Tag}
use Rattle.pgn_tokens.specs.declared.token.Token.{Token}
use Rattle.pgn_tokens.specs.declared.token.Token.TheVariants as token
use Rattle.pgn_tokens.specs.declared.token.TokenFault.{TokenFault}
use Rattle.pgn_tokens.specs.declared.token.TokenFault.TheVariants as fault
use Rattle.pgn_tokens.specs.Tokens as tokens
use Rattle.pgn_tokens.specs.Tokens.{tokens_from}

-- the tag that the code found: its text, and how many bytes are left where that begins; `None` if it found none
abbrev pub found_seen : Option Tag → Option (List ℕ × ℕ)
found_seen tag = option_map (λ t. (t.text.now, t.to_end)) tag

-- the code's token as one of the definitions, with lists in place of borrows
abbrev pub token_seen : Token → tokens.Token
token_seen token.Skip = tokens.Skip
token_seen (token.Tag t) = tokens.Tag t.name.now t.text.now t.to_end
token_seen (token.Word word) = tokens.Word word.now

-- the code's fault as one of the definitions' tokens
abbrev pub fault_seen : TokenFault → tokens.Token
fault_seen fault.BadTag = tokens.Bad_tag
fault_seen (fault.UnclosedComment to_end) = tokens.Unclosed_comment to_end
fault_seen fault.UnclosedVariation = tokens.Unclosed_variation
fault_seen fault.BadByte = tokens.Bad

-- what the code returned for the next token of the text from `at` on is right: `None` if none is left; otherwise the
-- first token and the offset after it, or a fault, which is the last token
abbrev pub IsNextToken : List ℕ → ℕ → Result (Option (Token × ℕ)) TokenFault → Type 0
IsNextToken text at (Ok None) = tokens_from text at ≡ []
IsNextToken text at (Ok (Some r)) = (tokens_from text at ≡ (length text - at, token_seen r.0) ∷ tokens_from text r.1)
    × (at < r.1) × (r.1 ≤ length text)
IsNextToken text at (Err f) = tokens_from text at ≡ (length text - at, fault_seen f) ∷ []

-- from the offset `a` to `b` the text has only skipped tokens; `to_ends`: how many bytes are left at each
abbrev pub SkipsTo : List ℕ → ℕ → ℕ → Type 0
SkipsTo text a b = (to_ends : List ℕ)
    × (tokens_from text a ≡ map (λ to_end. (to_end, tokens.Skip)) to_ends ++ tokens_from text b)
