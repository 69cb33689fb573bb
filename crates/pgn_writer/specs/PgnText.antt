-- A game's text by what it looks like (PGN standard of 1994, sections 3.2, 4.3 and 8).
use Rattle.std.specs.Prelude.{◌≡◌, ℕ, ◌<◌, ◌≤◌, List, [], ◌∷◌, ◌++◌, length, map}
use Rattle.std.specs.List.{flat_map, join_with_byte, AllByRecursion}
use Rattle.byte_devices.specs.Bytes.{space}
use Rattle.chess_game.specs.Game.{State}
use Rattle.pgn_writer.specs.declared.tags.Tags.{Tags}
use Rattle.pgn_writer.specs.GameText.{tag_lines, game_tokens}
use Rattle.pgn_writer.specs.Written.{ended}

-- a line's tokens as text, with one space between two
abbrev pub line_text : List (List ℕ) → List ℕ
line_text tokens = join_with_byte space tokens

-- these lines of tokens are as full as they can be: each has a token and at most 79 characters, and no room for the
-- first token of the next line
pub record AreFullLines (lines : List (List (List ℕ))) : Type 0 where
  pub some : AllByRecursion (λ line. 0 < length line) lines
  pub short : AllByRecursion (λ line. length (line_text line) ≤ 79) lines
  -- `token` begins the line after `line`, and would not have fitted into it
  pub full : (before after : List (List (List ℕ))) (line rest : List (List ℕ)) (token : List ℕ)
      → lines ≡ before ++ line ∷ (token ∷ rest) ∷ after → 79 < length (line_text (line ++ token ∷ []))

-- the text is that of the game `s` with these tags: their lines, an empty line, the tokens in lines as full as they can
-- be, an empty line; each line with `prefix` before it and `\n` after it
pub record IsPgn (prefix : List ℕ) (t : Tags) (s : State) (text : List ℕ) : Type 0 where
  -- the moves' lines, each as its tokens
  pub lines : List (List (List ℕ))
  pub full : AreFullLines lines
  pub all : flat_map (λ line. line) lines ≡ game_tokens s
  pub is : text ≡ ended prefix (tag_lines t s ++ [] ∷ map line_text lines ++ [] ∷ [])
