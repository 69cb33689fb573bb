-- The tags that are still to be read of a game.
use Rattle.std.specs.Prelude.{ℕ, List, length}
use Rattle.pgn_tokens.specs.GameTags.{TagPair, game_tags_of}
use Rattle.pgn_tokens.specs.Tokens.{tokens_from}

-- the tags of a game that come from the offset `at` of the text on
abbrev pub tags_left : List ℕ → ℕ → List TagPair
tags_left text at = game_tags_of (length text) (tokens_from text at)
