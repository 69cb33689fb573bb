-- Tags Variant that name no known variant.
use Rattle.std.specs.Prelude.{ℕ, ◌-◌, List, codes, Option, Some, None, is_some, if◌then◌else◌, option_and_then}
use Rattle.pgn_tokens.specs.LastTags.{tag_section, last_tag}
use Rattle.pgn_tokens.specs.Tokens.{Token}
use Rattle.chess_pgn.specs.GameRead.{known_variant}

-- the offset, in a text of `total` bytes, of the string of the last tag Variant of a game with these tokens, if that
-- tag names no known variant, such as `atomic`; otherwise `None`
abbrev pub unknown_variant_in : ℕ → List (ℕ × Token) → Option ℕ
unknown_variant_in total ts = option_and_then (λ t. if is_some (known_variant t.0) then None else Some (total - t.1))
    (last_tag (codes "Variant") (tag_section ts))
