-- The tag Result of a game (PGN standard of 1994, section 8.1.1.7).
use Rattle.std.specs.Prelude.{ℕ, ◌-◌, List, length, codes, Option}
use Rattle.std.specs.Option.{option_map}
use Rattle.pgn_writer.specs.Outcomes.{outcome_of}
use Rattle.pgn_tokens.specs.LastTags.{tag_section, last_tag}
use Rattle.pgn_tokens.specs.Tokens.{Token}
use Rattle.chess_pgn.specs.declared.tagged_result.ResultTag.{ResultTag}

-- the last tag Result, if any, of a game with these tokens, in a text of `total` bytes: the outcome that it names
-- (`None` if it names none), and the offset and length of the text between its quotes
abbrev pub result_tag_of : ℕ → List (ℕ × Token) → Option ResultTag
result_tag_of total ts = option_map (λ t. record { outcome = outcome_of t.0; offset = total - t.1; len = length t.0 })
    (last_tag (codes "Result") (tag_section ts))
