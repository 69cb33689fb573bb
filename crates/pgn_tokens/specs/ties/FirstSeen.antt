-- What the code returns that cuts the first token, a tag or a variation off a text, in the types of the definitions.
use Rattle.std.specs.Prelude.{List, [], ℕ, Option, Some, None, Result, Ok, Err}
use Rattle.std.specs.Borrow.{Bor}
use Rattle.pgn_tokens.specs.declared.tag.Tag.{Tag}
use Rattle.pgn_tokens.specs.declared.token.Token.{Token}
use Rattle.pgn_tokens.specs.declared.token.TokenFault.{TokenFault}
use Rattle.pgn_tokens.specs.Seen.{fault_seen, token_seen}
use Rattle.pgn_tokens.specs.Tokens as tokens

-- what the code's `read_tag` returned, as the definitions have it: the tag's token and the text after it, or `Bad_tag`
-- and an empty text
abbrev pub tag_seen : Option (Tag × Bor (List ℕ)) → tokens.Token × List ℕ
tag_seen None = (tokens.Bad_tag, [])
tag_seen (Some r) = (tokens.Tag r.0.name.now r.0.text.now r.0.to_end, r.1.now)

-- what the code's `after_variation` returned, as the definitions have it: `Skip` and the text after the variation, or
-- the token of the fault and an empty text
abbrev pub variation_seen : Result (Bor (List ℕ)) TokenFault → tokens.Token × List ℕ
variation_seen (Ok rest) = (tokens.Skip, rest.now)
variation_seen (Err f) = (fault_seen f, [])

-- what the code's `read_token` returned, as the definitions have it: the token and the text after it, or the token of
-- the fault and an empty text
abbrev pub first_seen : Result (Token × Bor (List ℕ)) TokenFault → tokens.Token × List ℕ
first_seen (Ok r) = (token_seen r.0, r.1.now)
first_seen (Err f) = (fault_seen f, [])
