-- The moves of variations: without a fault each is legal where it is made (PGN standard of 1994, section 8.2.5).
use Rattle.std.specs.Prelude.{◌≡◌, ℕ, ◌+◌, ◌-◌, Bool, true, false, ◌||◌, List, [], ◌∷◌, length, Option, Some, None, is_some, IsTrue}
use Rattle.std.specs.List.{list_all}
use Rattle.byte_devices.specs.Bytes.{is_digit}
use Rattle.chess_base.specs.declared.man.Move.{Move}
use Rattle.chess_base.specs.declared.setup.Setup.{Setup}
use Rattle.chess_base.specs.Moves.{after, is_legal}
use Rattle.pgn_tokens.specs.Tokens.{Token, Skip, Tag, Word}
use Rattle.pgn_tokens.specs.VariationTokens.{has_variation, is_variation}
use Rattle.chess_pgn.specs.Variations.{variations_fault}
use Rattle.chess_pgn.specs.laws.LineEnds.{is_end}
use Rattle.pgn_tokens.specs.Marks.{is_marks}
use Rattle.chess_text.specs.declared.reading.Reading.TheVariants as reads
use Rattle.chess_text.specs.Moves.{reading}
use Rattle.pgn_writer.specs.Outcomes.{outcome_of}

-- whether a token of a line is passed over: it is skipped, a tag, an outcome, a number or marks
abbrev pub is_passed : Token → Bool
is_passed Skip = true
is_passed (Tag name text to_end) = true
is_passed (Word word) = is_some (outcome_of word) || (list_all is_digit word || is_marks word)
is_passed _ = false

-- a line of the text (a game's own moves, or those of a variation) is legal from the position `p` on, with its
-- variations. The last argument is its tokens from there on; `before` is the position before its last move, if it has
-- one; `tokens` gives the tokens of the text from an offset on
pub data IsLegalLine (tokens : ℕ → List (ℕ × Token)) (text : List ℕ) : Option Setup → Setup → List (ℕ × Token)
    → Type 0 where
  no_more : {before : Option Setup} {p : Setup} → IsLegalLine tokens text before p []
  -- the variation's `)`
  closed : {before : Option Setup} {p : Setup} {left : ℕ} {token : Token} {more : List (ℕ × Token)}
      → is_end text (length text - left) token ≡ true → IsLegalLine tokens text before p ((left, token) ∷ more)
  passed : {before : Option Setup} {p : Setup} {left : ℕ} {token : Token} {more : List (ℕ × Token)}
      → is_variation text (length text - left) token ≡ false → is_passed token ≡ true
      → IsLegalLine tokens text before p more → IsLegalLine tokens text before p ((left, token) ∷ more)
  -- a word that denotes a legal move; the line continues in the position after it
  move : {before : Option Setup} {p : Setup} {left : ℕ} {word : List ℕ} {more : List (ℕ × Token)}
      (m : Move) → reading p word ≡ reads.Move m → IsTrue (is_legal p m)
      → IsLegalLine tokens text (Some p) (after p m) more
      → IsLegalLine tokens text before p ((left, Word word) ∷ more)
  -- a variation: what comes after its `(` is a legal line from the position before the line's last move on
  variation : {start p : Setup} {left : ℕ} {token : Token} {more : List (ℕ × Token)}
      → is_variation text (length text - left) token ≡ true
      → IsLegalLine tokens text None start (tokens (length text - left + 1))
      → IsLegalLine tokens text (Some start) p more
      → IsLegalLine tokens text (Some start) p ((left, token) ∷ more)

-- if a game that starts in the position `start` has a variation, and no fault in its variations, its line, from the
-- offset `at` of its text on, is legal with its variations. `tokens` gives the tokens of a text from an offset on
abbrev pub VariationsAreLegal : Type 0
VariationsAreLegal = (tokens : List ℕ → ℕ → List (ℕ × Token)) (text : List ℕ) (start : Setup) (at : ℕ)
    → has_variation text (tokens text at) ≡ true → variations_fault tokens text start at ≡ None
    → IsLegalLine (tokens text) text None start (tokens text at)
