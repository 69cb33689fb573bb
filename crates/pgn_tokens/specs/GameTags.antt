-- A game's tags, in order.
use Rattle.std.specs.Prelude.{ℕ, ◌-◌, List, Option, Some, None}
use Rattle.std.specs.List.{filter_map}
use Rattle.pgn_tokens.specs.declared.tag_list.PgnTag.{PgnTag}
use Rattle.pgn_tokens.specs.LastTags.{tag_section}
use Rattle.pgn_tokens.specs.Tokens.{Token, Tag}

-- a tag of a game
pub record TagPair : Type 0 where
  pub name : List ℕ
  -- the bytes between its quotes as they are
  pub text : List ℕ
  -- the offset of the first of these bytes in the whole text
  pub offset : ℕ

-- the tag that a token is, in a text of `total` bytes; `None` for any other token
abbrev pub tag_pair : ℕ → Token → Option TagPair
tag_pair total (Tag name text to_end) = Some (record { name = name; text = text; offset = total - to_end })
tag_pair total _ = None

-- in order, the tags in the tag section of a game with these tokens, in a text of `total` bytes
abbrev pub game_tags_of : ℕ → List (ℕ × Token) → List TagPair
game_tags_of total tokens = filter_map (λ t. tag_pair total t.1) (tag_section tokens)

-- the code's tag as a `TagPair`
abbrev pub pair_of : PgnTag → TagPair
pair_of tag = record { name = tag.name.now; text = tag.text.now; offset = tag.offset }
