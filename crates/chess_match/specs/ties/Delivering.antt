-- Lines, and lists of lines, for each of which the code has a function of its own.
use Rattle.std.specs.Prelude.{ℕ, ◌/◌, if◌then◌else◌, nat_lt, List, [], ◌∷◌, ◌++◌, length, codes, Option}
use Rattle.std.specs.Option.{option_map_or}
use Rattle.chess_base.specs.declared.man.Colour.{Colour}
use Rattle.chess_base.specs.declared.man.Variant.{Variant}
use Rattle.chess_base.specs.Men.{other}
use Rattle.byte_devices.specs.Bytes.{new_line}
use Rattle.chess_base.specs.Options.{list_if}
use Rattle.cecp_engine.specs.Items.{is_known, takes}
use Rattle.chess_match.specs.Effects.{Match, clock, move_line}
use Rattle.chess_match.specs.Rules.{Rules}
use Rattle.chess_match.specs.Lines.{SentLine, Says, Time, Otim}
use Rattle.chess_text.specs.San.{is_fischerandom}

-- the line that answers an item of this name, with its `\n`: `accepted ping`, or `rejected` and the name
abbrev pub answer_line : List ℕ → List ℕ
answer_line name = ((if is_known name then codes "accepted " else codes "rejected ") ++ name) ++ new_line ∷ []

-- the line `setboard FEN` with this FEN of the start position, as a list of one; empty for `None`
abbrev pub start_lines : Option (List ℕ) → List SentLine
start_lines start = option_map_or (λ fen. Says (codes "setboard " ++ fen) ∷ []) start []

-- the line `variant fischerandom` if the game is of Chess960, as a list of one; otherwise empty
abbrev pub variant_command : Variant → List SentLine
variant_command v = list_if (is_fischerandom v) (Says (codes "variant fischerandom") ∷ [])

-- the line that sends the side `S` the last move, as a list of one; empty if no move was made
abbrev pub last_move : Rules → Match → Colour → List SentLine
last_move r m S = list_if (nat_lt 0 (length m.played)) (move_line r m S ∷ [])

-- the lines that give the side `S` both clocks: `time T`, its own, and `otim U`, the other's, in centiseconds, rounded
-- down; no lines if its engine turned these off, as by `time=0`
abbrev pub clocks : Rules → Match → Colour → List SentLine
clocks r m S =
    list_if (takes (codes "time") (m.seat S).items) (Time (clock r m S / 10) ∷ Otim (clock r m (other S) / 10) ∷ [])
