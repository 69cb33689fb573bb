-- The definition of what is read after a game's tags (`moves_read`) is the same as a table with a row for what each
-- token does (`row`): the first token's row, and then what is read from the next token on (moves_by_row). By cases of
-- the first token.
use Rattle.std.proofs.Common.{◌≡◌, ℕ, ◌+◌, ◌-◌, Bool, true, false, cond, List, ◌∷◌, length, Option, Some, None, is_some, Ok, refl, ◌||◌, nat_lt}
use Rattle.std.specs.{List.list_all, Option.option_map_or, Option.unwrap_or}
use Rattle.byte_devices.specs.Bytes.{is_digit}
use Rattle.chess_base.specs.declared.man.Move.{Move}
use Rattle.chess_game.specs.Game.{State, played, current, verdict_now}
use Rattle.chess_game.specs.declared.results.Outcome.{Outcome}
use Rattle.chess_text.specs.{declared.reading.Reading.Reading, Moves.reading}
use Rattle.chess_text.specs.declared.reading.Reading.TheVariants as reads
use Rattle.chess_pgn.specs.declared.read.PgnFaultKind.{PgnFaultKind}
use Rattle.chess_pgn.specs.declared.read.PgnFaultKind.TheVariants.{AmbiguousMove, AfterEnd, IllegalMove, TooLong}
use Rattle.pgn_writer.specs.{declared.termination.Termination.Termination, Outcomes.outcome_of}
use Rattle.chess_pgn.specs.GameRead.{GameRead, closed_by, declared_after, ending, failed, moves_read}
use Rattle.pgn_tokens.specs.Marks.{is_marks}
use Rattle.chess_pgn.specs.Words.{word_gives}
use Rattle.pgn_tokens.specs.Tokens.{Token, Skip, Tag, Word, Bad_tag, Unclosed_comment, Unclosed_variation, Bad}
use Rattle.chess_pgn.specs.shared.Rows.{Goes_on, Ends, Fails, move_row, row, after_row}

-- the first token, from which `left` bytes are left, by its kind; `later` reads the tokens after it
module _ (draws : Bool) (limit total : ℕ) (termination : Option Termination) (s : State) (later : State → GameRead)
    (left : ℕ) where
  abbrev faulty : PgnFaultKind → GameRead
  faulty kind = failed s kind (total - left)

  -- a legal move
  move_made : (over room : Bool) (m : Move)
      → option_map_or faulty (cond over (Some AfterEnd) (cond room None (Some TooLong))) (later (played s m))
      ≡ after_row termination s (cond over (Fails AfterEnd (total - left))
      (cond room (Goes_on (played s m)) (Fails TooLong (total - left)))) later
  move_made true room m = refl
  move_made false true m = refl
  move_made false false m = refl

  -- a word that denotes none, or several
  none_made : (over room : Bool) (kind : PgnFaultKind)
      → faulty (unwrap_or (cond over (Some AfterEnd) (cond room None (Some TooLong))) kind)
      ≡ after_row termination s (cond over (Fails AfterEnd (total - left))
      (cond room (Fails kind (total - left)) (Fails TooLong (total - left)))) later
  none_made true room kind = refl
  none_made false true kind = refl
  none_made false false kind = refl

  by_reading : (r : Reading) → word_gives (closed_by draws limit s) (λ m. later (played s m)) faulty r
      ≡ after_row termination s (move_row draws limit s (total - left) r) later
  by_reading reads.NotAMove = refl
  by_reading (reads.Move m) = move_made (is_some (ending draws s)) (nat_lt (length s.moves) limit) m
  by_reading reads.Ambiguous = none_made (is_some (ending draws s)) (nat_lt (length s.moves) limit) AmbiguousMove
  by_reading reads.NoSuch = none_made (is_some (ending draws s)) (nat_lt (length s.moves) limit) IllegalMove

  -- its termination marker
  abbrev ended : List ℕ → Outcome → GameRead
  ended word o = record {
    state = record s { declared = declared_after (is_some (verdict_now s)) o };
    answer = Ok (Some (record { outcome = o; termination = termination; offset = total - left + length word }));
  }

  by_word : (word : List ℕ) (o : Option Outcome) (is_passed : Bool)
      → option_map_or (ended word) o (cond is_passed (later s)
      (word_gives (closed_by draws limit s) (λ m. later (played s m)) faulty (reading (current s) word)))
      ≡ after_row termination s (option_map_or (λ k. Ends k (total - left + length word)) o
      (cond is_passed (Goes_on s) (move_row draws limit s (total - left) (reading (current s) word)))) later
  by_word word (Some o) is_passed = refl
  by_word word None true = refl
  by_word word None false = by_reading (reading (current s) word)

pub moves_by_row : (draws : Bool) (limit total : ℕ) (termination : Option Termination) (s : State) (t : ℕ × Token)
    (ts : List (ℕ × Token))
    → moves_read draws limit total termination s (t ∷ ts)
    ≡ after_row termination s (row draws limit total s t) (λ next. moves_read draws limit total termination next ts)
moves_by_row draws limit total termination s (left, Skip) ts = refl
moves_by_row draws limit total termination s (left, Tag name string at_string) ts = refl
moves_by_row draws limit total termination s (left, Word word) ts =
    by_word draws limit total termination s (λ next. moves_read draws limit total termination next ts) left word
    (outcome_of word) (list_all is_digit word || is_marks word)
moves_by_row draws limit total termination s (left, Bad_tag) ts = refl
moves_by_row draws limit total termination s (left, Unclosed_comment brace) ts = refl
moves_by_row draws limit total termination s (left, Unclosed_variation) ts = refl
moves_by_row draws limit total termination s (left, Bad) ts = refl
