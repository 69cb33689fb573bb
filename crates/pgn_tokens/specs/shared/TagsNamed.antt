-- All tags of one name.
use Rattle.std.specs.Prelude.{ℕ, List}
use Rattle.std.specs.List.{filter_map}
use Rattle.pgn_tokens.specs.LastTags.{named_tag}
use Rattle.pgn_tokens.specs.Tokens.{Token}

-- the tags with this name, each as its text and how many bytes are left where that begins
abbrev pub tags_named : List ℕ → List (ℕ × Token) → List (List ℕ × ℕ)
tags_named name tags = filter_map (λ t. named_tag name t.1) tags
