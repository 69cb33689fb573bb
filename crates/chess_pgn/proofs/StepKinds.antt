-- The kinds of steps that reading a token may take (StepIs), so that other proofs go through these and not through all
-- tokens: each step is one of them (step_is), by cases of the token. And what holds of a word's step for each kind of
-- word holds of it for any word (word_cases).
use Rattle.std.proofs.Common.{◌≡◌, ℕ, ◌+◌, ◌-◌, ◌≤◌, ◌<◌, Bool, true, false, List, [], ◌∷◌, length, Option, Result, Ok, Err, refl, sym, subst, arith, rules, bytes_eq, codes, is_some, nat_lt, if◌then◌else◌}
use Rattle.chess_base.specs.{declared.fen_fault.FenFault.FenFault, declared.man.Move.Move as Played, declared.setup.Setup.Setup}
use Rattle.chess_fen.specs.Reading.{fen_reading_as}
use Rattle.chess_game.specs.Game.{from_start, played, current}
use Rattle.chess_game.specs.declared.results.Outcome.{Outcome}
use Rattle.chess_text.specs.{declared.reading.Reading.Reading, Moves.reading}
use Rattle.chess_text.specs.declared.reading.Reading.TheVariants as reads
use Rattle.chess_pgn.specs.{declared.read.PgnFaultKind.PgnFaultKind, declared.word_kind.WordKind.WordKind, GameRead.ending, laws.WordKinds.word_kind}
use Rattle.pgn_tokens.specs.{LastTags.may_precede_tags, shared.Places.IsWithin}
use Rattle.chess_pgn.specs.declared.read.PgnFaultKind.TheVariants.{BadTag, BadFen, BadToken, IllegalMove, AmbiguousMove, AfterEnd, TooLong, UnclosedComment, UnclosedVariation, NoResult}
use Rattle.pgn_writer.specs.declared.termination.Termination.{Termination}
use Rattle.chess_pgn.specs.declared.word_kind.WordKind.TheVariants.{End, Number, Marks, Move}
use Rattle.chess_pgn.specs.laws.TokenByToken.{SoFar, Step, On, fails, ends, unless_full, move_step, word_step, fen_step, tag_step, termination_after, step}
use Rattle.pgn_tokens.specs.Tokens.{Token, Skip, Tag, Word, Bad_tag, Unclosed_comment, Unclosed_variation, Bad}
use Rattle.pgn_tokens.proofs.shared.Bytes.{pick}
use Rattle.chess_pgn.proofs.PgnWords.{are_marks, marks_by_kind}

-- a step from the game `g` on, at a token from which `left` of `total` bytes are left: it leaves the game, plays a
-- move, sets the start, stops at a fault, whose offset is not before the token, or ends the game after `len` bytes of
-- it
pub data StepIs (g : SoFar) (left total : ℕ) : Step → Type 0 where
  passes : StepIs g left total (On g)
  stays : (m b : Bool) (t : Option Termination)
      → StepIs g left total (On (record { state = g.state; is_met = m; is_begun = b; termination = t }))
  plays : (m : Played)
      → StepIs g left total (On (record g { state = played g.state m; is_met = true; is_begun = true }))
  starts : (p : Setup) → StepIs g left total (On (record g { state = from_start p; is_met = true }))
  stops : (kind : PgnFaultKind) (offset : ℕ) → total - left ≤ offset → offset ≤ total
      → StepIs g left total (fails g kind offset)
  finishes : (o : Outcome) (len : ℕ) → 0 < len → len ≤ left → StepIs g left total (ends g o (total - left + len))

-- a termination marker has bytes
pub outcome_mark_has_bytes : (word : List ℕ) (o : Outcome) → End o ≡ word_kind word → 0 < length word
outcome_mark_has_bytes [] o h = cc
outcome_mark_has_bytes (c ∷ word) o h = search rules

-- each step is of one of these kinds, by what the token is
module _ (draws : Bool) (limit left total : ℕ) (g : SoFar) where
  full_is : (offset : ℕ) (next : Step) → total - left ≤ offset → offset ≤ total → StepIs g left total next
      → StepIs g left total (unless_full draws limit g offset next)
  full_is offset next low high h =
      pick (StepIs g left total) (is_some (ending draws g.state)) _ _ (λ _. stops AfterEnd offset low high) (λ _.
      pick (StepIs g left total) (nat_lt (length g.state.moves) limit) _ _ (λ _. h)
      (λ _. stops TooLong offset low high))

  move_is : (offset : ℕ) (r : Reading) → total - left ≤ offset → offset ≤ total
      → StepIs g left total (move_step draws limit g offset r)
  move_is offset reads.NotAMove low high = stops BadToken offset low high
  move_is offset (reads.Move m) low high = full_is offset _ low high (plays m)
  move_is offset reads.Ambiguous low high = full_is offset _ low high (stops AmbiguousMove offset low high)
  move_is offset reads.NoSuch low high = full_is offset _ low high (stops IllegalMove offset low high)

  word_is : (word : List ℕ) (kind : WordKind) → kind ≡ word_kind word → length word ≤ left
      → StepIs g left total (word_step draws limit g (total - left) word kind)
  word_is word (End o) is h = finishes o (length word) (outcome_mark_has_bytes word o is) h
  word_is word Number is h = stays true true g.termination
  word_is word Marks is h = passes
  word_is word Move is h = move_is (total - left) (reading (current g.state) word) (omega arith) (omega arith)

  fen_is : (offset : ℕ) (r : Result Setup FenFault) → total - left ≤ offset → offset ≤ total
      → StepIs g left total (fen_step g offset r)
  fen_is offset (Ok start) low high = starts start
  fen_is offset (Err fault) low high = stops (BadFen fault) offset low high

  tag_is : (name text : List ℕ) (offset : ℕ) → total - left ≤ offset → offset ≤ total
      → StepIs g left total (tag_step g name text offset)
  tag_is name text offset low high = pick (StepIs g left total) (bytes_eq name (codes "FEN")) _ _
      (λ _. fen_is offset (fen_reading_as g.state.start.variant text) low high)
      (λ _. stays true g.is_begun (termination_after g.termination name text))

pub step_is : (draws : Bool) (limit total : ℕ) (g : SoFar) (left : ℕ) (t : Token) → IsWithin left t
    → StepIs g left total (step draws limit total g left t)
step_is draws limit total g left Skip h = passes
step_is draws limit total g left (Tag name text string) h =
    pick (StepIs g left total) g.is_begun _ _
    (λ _. stops NoResult (total - left) (omega arith) (omega arith))
    (λ _. tag_is draws limit left total g name text (total - string) (omega (arith, h)) (omega arith))
step_is draws limit total g left (Word word) h =
    word_is draws limit left total g word (word_kind word) refl h
step_is draws limit total g left Bad_tag h =
    stops (if g.is_begun then NoResult else BadTag) (total - left) (omega arith) (omega arith)
step_is draws limit total g left (Unclosed_comment brace) h =
    stops UnclosedComment (total - brace) (omega (arith, h)) (omega arith)
step_is draws limit total g left Unclosed_variation h =
    stops UnclosedVariation (total - left) (omega arith) (omega arith)
step_is draws limit total g left Bad h = stops BadToken (total - left) (omega arith) (omega arith)

-- what holds of a word's step, whatever kind of word it is; and whether more tags may come after it
pub word_cases : (P : (SoFar → ℕ → Step) → Bool → Type 0) (draws : Bool) (limit : ℕ) (word : List ℕ)
    → ((o : Outcome) → P (λ g offset. ends g o (offset + length word)) false)
    → P (λ g offset. On (record g { is_met = true; is_begun = true })) false → P (λ g offset. On g) true
    → P (λ g offset. move_step draws limit g offset (reading (current g.state) word)) false
    → P (λ g offset. word_step draws limit g offset word (word_kind word)) (may_precede_tags (Word word))
word_cases P draws limit word end number marks move =
    subst (P (λ g offset. word_step draws limit g offset word (word_kind word))) (sym (marks_by_kind word))
    (by_kind (word_kind word))
  where
    by_kind : (k : WordKind) → P (λ g offset. word_step draws limit g offset word k) (are_marks k)
    by_kind (End o) = end o
    by_kind Number = number
    by_kind Marks = marks
    by_kind Move = move
