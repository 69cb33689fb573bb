-- Tokens of any text in lines (PGN standard of 1994, section 4.3), as a game's are written.
use Rattle.std.specs.Prelude.{◌≡◌, ℕ, ◌<◌, ◌≤◌, List, length, map}
use Rattle.std.specs.List.{flat_map, AllByRecursion}
use Rattle.pgn_writer.specs.PgnText.{line_text, AreFullLines}

-- each token fits into a line: it has 1 to 79 bytes
abbrev pub AreShort : List (List ℕ) → Type 0
AreShort tokens = AllByRecursion (λ t. (0 < length t) × (length t ≤ 79)) tokens

-- `texts` are the texts of lines that are as full as they can be (`AreFullLines`) and hold these tokens, in order
pub record AreFilled (tokens texts : List (List ℕ)) : Type 0 where
  -- the lines, each as its tokens
  pub lines : List (List (List ℕ))
  pub full : AreFullLines lines
  pub all : flat_map (λ line. line) lines ≡ tokens
  pub are : texts ≡ map line_text lines
