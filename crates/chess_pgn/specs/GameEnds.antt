-- Where a game ends, even a faulty one: with its termination marker (PGN standard of 1994, section 8.2.6), or before
-- the next game's tags.
use Rattle.std.specs.Prelude.{ℕ, ◌+◌, ◌-◌, List, length, drop, slice_get, Option, Some, None}
use Rattle.std.specs.List.{filter_map}
use Rattle.std.specs.Option.{option_map}
use Rattle.pgn_tokens.specs.LastTags.{tag_section}
use Rattle.pgn_tokens.specs.Tokens.{Token, Tag, Word}
use Rattle.pgn_writer.specs.Outcomes.{outcome_of}

-- the offset at which a token after a game's tags ends the game: after a termination marker, or before the next game's
-- tag; `None` for any other token. `left` of the text's `total` bytes are left at the token
abbrev pub ends_at : ℕ → ℕ × Token → Option ℕ
ends_at total (left, Word word) = option_map (λ outcome. total - left + length word) (outcome_of word)
ends_at total (left, Tag name text to_end) = Some (total - left)
ends_at total _ = None

-- the offset at which the game with these tokens ends in a text of `total` bytes, by the first token after its tags
-- that ends it; `None` if the text ends, or can't be read, before such a token
abbrev pub game_end : ℕ → List (ℕ × Token) → Option ℕ
game_end total tokens = slice_get (filter_map (ends_at total) (drop (length (tag_section tokens)) tokens)) 0
