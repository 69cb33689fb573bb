-- The law of games' texts: what is written is read back.
use Rattle.std.specs.Prelude.{◌≡◌, ℕ, ◌+◌, Bool, List, [], ◌++◌, length, Some, None, Ok, option_and_then}
use Rattle.chess_game.specs.Game.{State, outcome_now, IsPlayable}
use Rattle.pgn_writer.specs.declared.tags.Tags.{Tags}
use Rattle.pgn_writer.specs.declared.termination.Termination.{Termination}
use Rattle.pgn_writer.specs.Terminations.{termination_of}
use Rattle.chess_pgn.specs.GameRead.{GameRead, pgn_read}
use Rattle.pgn_writer.specs.GameText.{pgn}
use Rattle.chess_pgn.specs.ResultTags.{result_tag_of}
use Rattle.chess_pgn.specs.UnknownVariants.{unknown_variant_in}
use Rattle.pgn_tokens.specs.Split.{IsSplit}
use Rattle.pgn_tokens.specs.Tokens.{Token}
use Rattle.byte_devices.specs.Bytes.{after_byte_order_mark}
use Rattle.chess_game.specs.Results.{IsTagText}

-- the text of each tag is at most 60 bytes of printable ASCII
pub record AreTagTexts (t : Tags) : Type 0 where
  pub event : IsTagText t.event
  pub site : IsTagText t.site
  pub date : IsTagText t.date
  pub round : IsTagText t.round
  pub white : IsTagText t.white
  pub black : IsTagText t.black

-- reading the written text of the game `s` gave its start, moves and outcome and this termination. `text_end` is the
-- offset after its text
pub record IsReadBack (s : State) (termination : Termination) (text_end : ℕ) (r : GameRead) : Type 0 where
  pub start : r.state.start ≡ s.start
  pub moves : r.state.moves ≡ s.moves
  pub outcome : outcome_now r.state ≡ outcome_now s
  -- the offset after its termination marker
  pub offset : ℕ
  pub answer : r.answer ≡ Ok
      (Some (record { outcome = outcome_now s; termination = Some termination; offset = offset }))
  -- after it come the end of its line and an empty line
  pub two_before_end : offset + 2 ≡ text_end

-- the text that is written of a playable game `s` of at most `limit` half-moves, without line prefixes, and with tags
-- of at most 60 bytes of printable ASCII each, is read back as that game, whatever text comes before and after it.
-- `draws`: whether fivefold repetition and 75 moves end a game
abbrev pub PgnIsReadBack : Type 0
PgnIsReadBack =
    (draws : Bool) → (limit : ℕ) → (tags : Tags) → (s : State) → (before after : List ℕ) → AreTagTexts tags
    → IsPlayable (record { limit = limit; state = s })
    → IsReadBack s (termination_of tags.ended (outcome_now s)) (length (before ++ pgn [] tags s))
    (pgn_read draws limit (before ++ pgn [] tags s ++ after) (length before))

-- whatever text comes before and after the text that is written so of a playable game: of the tags that are read there
-- as the game's own, the last tag Result exists and names the game's outcome
abbrev pub ResultIsWritten : Type 0
ResultIsWritten =
    (limit : ℕ) → (tags : Tags) → (s : State) → (before after : List ℕ) → AreTagTexts tags
    → IsPlayable (record { limit = limit; state = s }) → let text = before ++ pgn [] tags s ++ after in
    (tokens : List (ℕ × Token)) → IsSplit text (after_byte_order_mark text (length before)) tokens
    → option_and_then (λ tag. tag.outcome) (result_tag_of (length text) tokens) ≡ Some (outcome_now s)

-- likewise the last of these tags Variant, if there is one, names a known variant
abbrev pub VariantIsWritten : Type 0
VariantIsWritten =
    (limit : ℕ) → (tags : Tags) → (s : State) → (before after : List ℕ) → AreTagTexts tags
    → IsPlayable (record { limit = limit; state = s }) → let text = before ++ pgn [] tags s ++ after in
    (tokens : List (ℕ × Token)) → IsSplit text (after_byte_order_mark text (length before)) tokens
    → unknown_variant_in (length text) tokens ≡ None
