-- The definition of a line's first fault (`line_fault`) has a case for each kind of token. It is the same by what the
-- first token does, as the code asks it: is it a variation, does it end the line with `)`, or is it a move, passed over
-- or a fault (line_by_kind). By cases of the token.
use Rattle.std.proofs.Common.{◌≡◌, ℕ, ◌-◌, Bool, true, false, cond, List, ◌∷◌, length, Option, Some, None, is_some, Ok, Err, refl, ◌||◌}
use Rattle.std.specs.{List.list_all, Option.option_map_or, Option.option_or}
use Rattle.byte_devices.specs.Bytes.{is_digit}
use Rattle.chess_base.specs.{declared.man.Move.Move, declared.setup.Setup.Setup, Moves.after}
use Rattle.chess_text.specs.{declared.reading.Reading.Reading, Moves.reading}
use Rattle.chess_text.specs.declared.reading.Reading.TheVariants as reads
use Rattle.pgn_writer.specs.Outcomes.{outcome_of}
use Rattle.chess_pgn.specs.{declared.read.PgnFault.PgnFault, declared.read.PgnFaultKind.PgnFaultKind, declared.read.PgnFaultKind.TheVariants.BadToken, Words.word_gives, laws.LineEnds.is_end}
use Rattle.pgn_tokens.specs.Marks.{is_marks}
use Rattle.pgn_tokens.specs.Tokens.{Token, Skip, Tag, Word, Bad_tag, Unclosed_comment, Unclosed_variation, Bad}
use Rattle.pgn_tokens.specs.VariationTokens.{is_variation}
use Rattle.chess_pgn.specs.Variations.{line_fault}
use Rattle.chess_pgn.specs.shared.LineTokens.{after_token, token_move, word_move}

module _ (tags : Bool) (text : List ℕ) (inside : Setup → ℕ → Option PgnFault) (before : Option Setup) (p : Setup)
    (left : ℕ) (more : List (ℕ × Token)) where
  abbrev at : ℕ
  at = length text - left

  abbrev later : Option Setup → Setup → Option PgnFault
  later b q = line_fault tags text inside b q more

  abbrev faulty : PgnFaultKind → Option PgnFault
  faulty kind = Some (record { kind = kind; offset = at })

  -- what a variation gives
  abbrev opened : Option PgnFault
  opened = option_map_or (λ start. inside start at) before (faulty BadToken)

  -- what a token gives, by whether it is a variation, and whether it is a `)`
  abbrev by_kind : Token → Bool → Bool → Option PgnFault
  by_kind token opens closes = cond opens (option_or opened (later before p))
      (cond closes None (after_token at before p (token_move tags p token) later))

  skipped : (opens : Bool) → option_or (cond opens opened None) (later before p) ≡ by_kind Skip opens false
  skipped true = refl
  skipped false = refl

  by_reading : (r : Reading)
      → word_gives None (λ m. later (Some p) (after p m)) faulty r
      ≡ after_token at before p (word_move r) later
  by_reading reads.NotAMove = refl
  by_reading (reads.Move m) = refl
  by_reading reads.Ambiguous = refl
  by_reading reads.NoSuch = refl

  by_word : (word : List ℕ) (is_passed : Bool) → cond is_passed (later before p)
      (word_gives None (λ m. later (Some p) (after p m)) faulty
      (reading p word))
      ≡ after_token at before p (cond is_passed (Ok None) (word_move (reading p word))) later
  by_word word true = refl
  by_word word false = by_reading (reading p word)

  by_tag : (is_passed : Bool) → cond is_passed (later before p) (faulty BadToken)
      ≡ after_token at before p (cond is_passed (Ok None) (Err BadToken)) later
  by_tag true = refl
  by_tag false = refl

  pub line_by_kind : (token : Token) → line_fault tags text inside before p ((left, token) ∷ more)
      ≡ by_kind token (is_variation text at token) (is_end text at token)
  line_by_kind Skip = skipped (is_variation text at Skip)
  line_by_kind (Tag name string at_string) = by_tag tags
  line_by_kind (Word word) = by_word word (is_some (outcome_of word) || (list_all is_digit word || is_marks word))
  line_by_kind Bad_tag = refl
  line_by_kind (Unclosed_comment brace) = refl
  line_by_kind Unclosed_variation = refl
  line_by_kind Bad = refl
