-- What one token does in a line of moves (a game's own, or those of a variation); `line_fault` says the same of a whole
-- line.
use Rattle.std.specs.Prelude.{ℕ, Bool, ◌||◌, if◌then◌else◌, Option, Some, None, is_some, Result, Ok, Err}
use Rattle.std.specs.List.{list_all}
use Rattle.byte_devices.specs.Bytes.{is_digit}
use Rattle.chess_base.specs.declared.man.Move.{Move}
use Rattle.chess_base.specs.declared.setup.Setup.{Setup}
use Rattle.chess_base.specs.Moves.{after}
use Rattle.chess_text.specs.declared.reading.Reading.{Reading}
use Rattle.chess_text.specs.declared.reading.Reading.TheVariants as reads
use Rattle.chess_text.specs.Moves.{reading}
use Rattle.pgn_writer.specs.Outcomes.{outcome_of}
use Rattle.chess_pgn.specs.declared.read.PgnFault.{PgnFault}
use Rattle.chess_pgn.specs.declared.read.PgnFaultKind.{PgnFaultKind}
use Rattle.chess_pgn.specs.declared.read.PgnFaultKind.TheVariants.{BadToken, IllegalMove, AmbiguousMove}
use Rattle.pgn_tokens.specs.Tokens.{Token, Skip, Tag, Word}
use Rattle.pgn_tokens.specs.Marks.{is_marks}

-- what a word that is taken as a move does, by what it denotes: a legal move is made, anything else is a fault
abbrev pub word_move : Reading → Result (Option Move) PgnFaultKind
word_move (reads.Move m) = Ok (Some m)
word_move reads.NotAMove = Err BadToken
word_move reads.Ambiguous = Err AmbiguousMove
word_move reads.NoSuch = Err IllegalMove

-- what a token does in a line whose position is `p`: the move to be made, if it is one; nothing (`Ok None`) if it is
-- passed over; or a fault. `tags`: whether tags are passed over
abbrev pub token_move : Bool → Setup → Token → Result (Option Move) PgnFaultKind
token_move tags p Skip = Ok None
token_move tags p (Tag name text to_end) = if tags then Ok None else Err BadToken
token_move tags p (Word word) = if is_some (outcome_of word) || (list_all is_digit word || is_marks word) then Ok None
    else word_move (reading p word)
token_move tags p _ = Err BadToken

-- the first fault of a line from a token at the offset `at` on, by what that token does in the position `p`: its own
-- fault, or what `later` gives for the position before the last move (`before` if no move is made) and that after it
abbrev pub after_token : ℕ → Option Setup → Setup → Result (Option Move) PgnFaultKind
    → (Option Setup → Setup → Option PgnFault) → Option PgnFault
after_token at before p (Ok None) later = later before p
after_token at before p (Ok (Some m)) later = later (Some p) (after p m)
after_token at before p (Err kind) later = Some (record { kind = kind; offset = at })
