-- Tags that are put into lines.
use Rattle.std.specs.Prelude.{ℕ, List, map}
use Rattle.pgn_writer.specs.declared.tags.TagPair.{TagPair}
use Rattle.pgn_writer.specs.Written.{tag_line}

-- the lines of these tags in order, each as `[Event "a"]`
abbrev pub tag_lines_of : List TagPair → List (List ℕ)
tag_lines_of pairs = map (λ p. tag_line p.name.now p.text.now) pairs
