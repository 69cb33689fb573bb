-- What the reader answers of games that go on after one of the two draws of 2014, step by step.
use Rattle.std.specs.Prelude.{◌≡◌, ℕ, ◌+◌, ◌-◌, nat_lt, Bool, false, List, length, Option, Some, None, is_some, is_none, unwrap_or, if◌then◌else◌, Result, Ok, Err}
use Rattle.std.specs.Option.{option_map_or}
use Rattle.chess_base.specs.declared.setup.Setup.{Setup}
use Rattle.chess_base.specs.Moves.{after}
use Rattle.chess_game.specs.Game.{State, from_start, current}
use Rattle.chess_game.specs.declared.game.TheConstants.{MOST_MOVES}
use Rattle.chess_game.specs.declared.verdicts.Verdict.{Verdict}
use Rattle.chess_text.specs.declared.reading.Reading.{Reading}
use Rattle.chess_text.specs.declared.reading.Reading.TheVariants as reads
use Rattle.chess_text.specs.Moves.{reading}
use Rattle.chess_pgn.specs.declared.past_draws.Effect as code
use Rattle.chess_pgn.specs.declared.past_draws.Effect.TheVariants as does
use Rattle.chess_pgn.specs.declared.read.PgnEnd.{PgnEnd}
use Rattle.chess_pgn.specs.declared.read.PgnFault.{PgnFault}
use Rattle.chess_pgn.specs.declared.read.PgnFaultKind.{PgnFaultKind}
use Rattle.chess_pgn.specs.declared.read.PgnFaultKind.TheVariants.{BadToken, IllegalMove, AmbiguousMove, AfterEnd, TooLong, UnclosedComment, UnclosedVariation, NoResult}
use Rattle.chess_pgn.specs.declared.word_kind.WordKind.{WordKind}
use Rattle.chess_pgn.specs.declared.word_kind.WordKind.TheVariants.{End, Number, Marks, Move}
use Rattle.chess_pgn.specs.laws.WordKinds.{word_kind}
use Rattle.pgn_tokens.specs.Tokens.{Token, Skip, Word, Unclosed_comment, Unclosed_variation, Bad}
use Rattle.chess_pgn.specs.GameRead.{GameRead, ending}

-- whether a fault of this kind is a move after fivefold repetition or 75 moves, the draws of 2014, which has ended the
-- game `s`
abbrev pub is_past_draw : PgnFaultKind → State → Bool
is_past_draw AfterEnd s = is_none (ending false s)
is_past_draw _ s = false

-- whether this answer, with which reading of the game `s` stopped, is the fault of a move after such a draw
-- (`is_past_draw`)
abbrev pub is_at_past_draw : State → Result (Option PgnEnd) PgnFault → Bool
is_at_past_draw s (Ok end) = false
is_at_past_draw s (Err fault) = is_past_draw fault.kind s

-- whether reading stopped at a move after one of the draws of 2014, by what was read
abbrev pub stops_past_draw : GameRead → Bool
stops_past_draw r = is_at_past_draw r.state r.answer

-- what code returned of a game's moves (the end and the number of half-moves, or a fault) is what was read of them
-- (`r`), and the game `g` began anew at the position in which reading stopped
abbrev pub IsReadAgain : GameRead → Result (PgnEnd × ℕ) PgnFault → State → Type 0
IsReadAgain r (Ok p) g = (r.answer ≡ Ok (Some p.0)) × (p.1 ≡ length r.state.moves)
    × (g ≡ from_start (current r.state))
IsReadAgain r (Err fault) g = (r.answer ≡ Err fault) × (g ≡ from_start (current r.state))

-- ---- one token

-- the fault of any move in a game of so many half-moves (`plies`), which this verdict ends, if any; `None` if a move
-- may be played
abbrev pub closing_fault : Option Verdict → ℕ → Option PgnFaultKind
closing_fault verdict plies = if is_some verdict then Some AfterEnd
    else if nat_lt plies MOST_MOVES then None else Some TooLong

-- what a word gives in the position `p`, by what it is read as there: the position after the move, or a fault.
-- `closing` is the fault of any move there
abbrev pub next_position : Option PgnFaultKind → Setup → Reading → Result Setup PgnFaultKind
next_position closing p reads.NotAMove = Err BadToken
next_position closing p (reads.Move m) = option_map_or Err closing (Ok (after p m))
next_position closing p reads.Ambiguous = Err (unwrap_or closing AmbiguousMove)
next_position closing p reads.NoSuch = Err (unwrap_or closing IllegalMove)

-- what a word at the offset does that is taken as a move, by the position after it, or by its fault
abbrev pub move_effect : ℕ → Result Setup PgnFaultKind → Result code.Effect PgnFault
move_effect offset (Ok p) = Ok (does.Move p)
move_effect offset (Err kind) = Err (record { kind = kind; offset = offset })

-- what a word of this kind at the offset does in the game `g`, of so many half-moves (`plies`)
abbrev pub word_effect : ℕ → State → ℕ → List ℕ → WordKind → Result code.Effect PgnFault
word_effect plies g offset word (End o) = Ok (does.End o (offset + length word))
word_effect plies g offset word Number = Ok does.Nothing
word_effect plies g offset word Marks = Ok does.Nothing
word_effect plies g offset word Move =
    move_effect offset (next_position (closing_fault (ending false g) plies) (current g) (reading (current g) word))

-- the fault of a token that is no part of a game's moves, in a text of `total` bytes, of which `left` are left at the
-- token
abbrev pub unread_fault : ℕ → ℕ → Token → PgnFault
unread_fault total left (Unclosed_comment brace) = record { kind = UnclosedComment; offset = total - brace }
unread_fault total left Unclosed_variation = record { kind = UnclosedVariation; offset = total - left }
unread_fault total left Bad = record { kind = BadToken; offset = total - left }
unread_fault total left _ = record { kind = NoResult; offset = total - left }

-- what a token after the tags does in the game `g`, of so many half-moves (`plies`); `left` of the text's `total` bytes
-- are left at it
abbrev pub token_effect : ℕ → ℕ → State → ℕ → Token → Result code.Effect PgnFault
token_effect plies total g left Skip = Ok does.Nothing
token_effect plies total g left (Word word) = word_effect plies g (total - left) word (word_kind word)
token_effect plies total g left token = Err (unread_fault total left token)
