-- What one token after a game's tags does, as a row of a table; `moves_read` says the same of all these tokens
-- together.
use Rattle.std.specs.Prelude.{ℕ, ◌+◌, ◌-◌, nat_lt, Bool, ◌||◌, if◌then◌else◌, List, length, Option, Some, None, is_some, Result, Ok, Err}
use Rattle.std.specs.List.{list_all, last_or}
use Rattle.std.specs.Option.{option_map_or, unwrap_or}
use Rattle.std.specs.Result.{ok_prefix}
use Rattle.chess_base.specs.declared.setup.Setup.{Setup}
use Rattle.byte_devices.specs.Bytes.{is_digit}
use Rattle.chess_game.specs.Game.{State, played, current, verdict_now}
use Rattle.chess_game.specs.declared.results.Outcome.{Outcome}
use Rattle.chess_text.specs.declared.reading.Reading.{Reading}
use Rattle.chess_text.specs.declared.reading.Reading.TheVariants as reads
use Rattle.chess_text.specs.Moves.{reading}
use Rattle.chess_pgn.specs.declared.read.PgnFault.{PgnFault}
use Rattle.chess_pgn.specs.declared.read.PgnFaultKind.{PgnFaultKind}
use Rattle.chess_pgn.specs.declared.read.PgnFaultKind.TheVariants.{BadToken, IllegalMove, AmbiguousMove, AfterEnd, TooLong, UnclosedComment, UnclosedVariation, NoResult}
use Rattle.pgn_writer.specs.declared.termination.Termination.{Termination}
use Rattle.chess_pgn.specs.GameRead.{GameRead, declared_after, ending}
use Rattle.pgn_tokens.specs.Tokens.{Token, Skip, Word, Unclosed_comment, Unclosed_variation, Bad}
use Rattle.pgn_writer.specs.Outcomes.{outcome_of}
use Rattle.pgn_tokens.specs.Marks.{is_marks}

-- what a token does: the game goes on as `next`; an outcome ends it, before the offset `end`; or there is a fault of
-- this kind at the offset `at`
pub data Row : Type 0 where
  Goes_on : (next : State) → Row
  Ends : (o : Outcome) (end : ℕ) → Row
  Fails : (kind : PgnFaultKind) (at : ℕ) → Row

-- what a move at the offset `at` does in the game `s` of at most `limit` half-moves: a fault if a verdict has ended it
-- or if it is full; otherwise what `allowed` says. `draws`: whether fivefold repetition and 75 moves end it
abbrev pub unless_over : Bool → ℕ → State → ℕ → Row → Row
unless_over draws limit s at allowed = if is_some (ending draws s) then Fails AfterEnd at
    else if nat_lt (length s.moves) limit then allowed
    else Fails TooLong at

-- what a word at the offset `at`, taken as a move, does in the game `s` of at most `limit` half-moves, by what it
-- denotes there. `draws`: whether fivefold repetition and 75 moves end the game
abbrev pub move_row : Bool → ℕ → State → ℕ → Reading → Row
move_row draws limit s at reads.NotAMove = Fails BadToken at
move_row draws limit s at (reads.Move m) = unless_over draws limit s at (Goes_on (played s m))
move_row draws limit s at reads.Ambiguous = unless_over draws limit s at (Fails AmbiguousMove at)
move_row draws limit s at reads.NoSuch = unless_over draws limit s at (Fails IllegalMove at)

-- what a token after the tags does in the game `s` of at most `limit` half-moves. `left` of the text's `total` bytes
-- are left at the token. `draws`: whether fivefold repetition and 75 moves end the game
abbrev pub row : Bool → ℕ → ℕ → State → ℕ × Token → Row
row draws limit total s (left, Skip) = Goes_on s
-- an outcome such as `1-0` ends the game; a number and marks such as `!?` are passed over; any other word is taken as a
-- move
row draws limit total s (left, Word word) = option_map_or (λ o. Ends o (total - left + length word)) (outcome_of word)
    (if list_all is_digit word || is_marks word then Goes_on s
    else move_row draws limit s (total - left) (reading (current s) word))
row draws limit total s (left, Unclosed_comment brace) = Fails UnclosedComment (total - brace)
row draws limit total s (left, Unclosed_variation) = Fails UnclosedVariation (total - left)
row draws limit total s (left, Bad) = Fails BadToken (total - left)
-- a tag, even a bad one, is the next game's, so this one has no outcome
row draws limit total s (left, _) = Fails NoResult (total - left)

-- the game `s` was read up to this fault
abbrev pub with_fault : State → PgnFault → GameRead
with_fault s fault = record { state = s; answer = Err fault }

-- what is read of the game `s` from a token on, by what that token does: `later` says what is read from the next one
-- on, `termination` is what the tag Termination names. An outcome that ends the game is declared, unless it is `*` or
-- the board has a verdict (`declared_after`)
abbrev pub after_row : Option Termination → State → Row → (State → GameRead) → GameRead
after_row termination s (Goes_on next) later = later next
after_row termination s (Ends o end) later = record {
  state = record s { declared = declared_after (is_some (verdict_now s)) o };
  answer = Ok (Some (record { outcome = o; termination = termination; offset = end }));
}
after_row termination s (Fails kind at) later = with_fault s (record { kind = kind; offset = at })

-- ---- the start

-- the position of the last FEN before the first that denotes none; `start` if there is no such FEN
abbrev pub last_start : Setup → List (Result Setup PgnFault) → Setup
last_start start fens = unwrap_or (last_or None (ok_prefix fens)) start
