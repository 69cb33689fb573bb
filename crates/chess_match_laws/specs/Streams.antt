-- What engines and a clock give, what lines say, and what notes contain. Of lines that are read `None` is one that was
-- too long.
use Rattle.std.specs.Prelude.{◌≡◌, ℕ, ◌+◌, ◌-◌, ◌/◌, ◌≤◌, Bool, true, false, if◌then◌else◌, List, [], ◌∷◌, ◌++◌, length, Option}
use Rattle.std.specs.List.{flat_map, list_any}
use Rattle.chess_base.specs.declared.man.Colour.{Colour}
use Rattle.chess_base.specs.declared.man.Move.{Move}
use Rattle.chess_base.specs.Men.{other, same_colour}
use Rattle.cecp_engine.specs.EngineLines.{LineKind, Moves}
use Rattle.cecp_engine.specs.Items.{Item, ends_handshake}
use Rattle.cecp_engine.specs.Levels.{LevelSeen, allotted}
use Rattle.chess_match.specs.Acts.{Act, Block, Sends}
use Rattle.chess_match.specs.ByDevice.{look}
use Rattle.chess_match.specs.Events.{Line, Opened, Silent}
use Rattle.chess_match.specs.Rules.{Rules, text_of_last}
use Rattle.chess_text.specs.declared.reading.Reading.TheVariants as reads
use Rattle.chess_match.specs.Notes.{Note, Happened, Gives}
use Rattle.chess_base.specs.Options.{list_if}
use Rattle.chess_match.specs.Lines.{SentLine, MoveSent, Time, Otim}
use Rattle.chess_game.specs.Line.{position_after}
use Rattle.chess_text.specs.Moves.{reading}
use Rattle.chess_match.specs.laws.Laws.{line_kind, items_in_line, move_said, is_pong}

-- ---- what acts did at each device

-- whether each look for a line of the side `S` in these acts is a silence (no line had come yet), in order
abbrev pub looks : Colour → List Act → List Bool
looks S H = flat_map (look S) H

-- the blocks that the side `S` was sent, without one that could not be sent
abbrev pub blocks_sent : Colour → List Act → List Block
blocks_sent S [] = []
blocks_sent S (Sends block ∷ H) = list_if (same_colour block.to S) (block ∷ []) ++ blocks_sent S H
blocks_sent S (_ ∷ H) = blocks_sent S H

-- ---- notes

-- all bytes that the side `S` is sent by these notes, in order
abbrev pub given_in : Colour → List Note → List ℕ
given_in S [] = []
given_in S (Happened e ∷ notes) = given_in S notes
given_in S (Gives c text ∷ notes) = list_if (same_colour c S) text ++ given_in S notes

-- the lines of the side `S` among these notes, in order
abbrev pub lines_noted : Colour → List Note → List (Option (List ℕ))
lines_noted S [] = []
lines_noted S (Happened (Line side text moment) ∷ notes) =
    list_if (same_colour side S) (text ∷ []) ++ lines_noted S notes
lines_noted S (_ ∷ notes) = lines_noted S notes

-- the moments of lines, silences and openings among these notes, in order
abbrev pub moments_noted : List Note → List ℕ
moments_noted [] = []
moments_noted (Happened (Line side text moment) ∷ notes) = moment ∷ moments_noted notes
moments_noted (Happened (Opened side moment) ∷ notes) = moment ∷ moments_noted notes
moments_noted (Happened (Silent side moment) ∷ notes) = moment ∷ moments_noted notes
moments_noted (_ ∷ notes) = moments_noted notes

-- ---- streams

-- what two engines and a clock give
pub record Streams : Type 0 where
  -- each engine's lines
  pub lines : Colour → List (Option (List ℕ))
  -- whether no line of an engine has come yet at its look with this number, from 0 on
  pub silent : Colour → ℕ → Bool
  -- whether reading from an engine fails after its lines; otherwise its output ends there
  pub fails : Colour → Bool
  -- how many blocks each engine can be sent before sending one fails; `None`: none fails
  pub breaks : Colour → Option ℕ
  -- the times that the clock shows, one after another
  pub moments : ℕ → ℕ

-- ---- moves sent

-- the text of the move in a sent line, as a list of one; empty for other lines
abbrev pub move_sent : SentLine → List (List ℕ)
move_sent (MoveSent prefixed text) = text ∷ []
move_sent _ = []

-- the texts of the moves in these sent lines
abbrev pub moves_sent : List SentLine → List (List ℕ)
moves_sent lines = flat_map move_sent lines

-- of the moves `ms`, made in turn after the moves `before`, first by the side `c`: the texts of those of the side `S`,
-- in SAN or by squares (`as_san`)
abbrev pub texts_from : Rules → Bool → Colour → Colour → List Move → List Move → List (List ℕ)
texts_from r as_san S c before [] = []
texts_from r as_san S c before (m ∷ ms) =
    (if same_colour c S then text_of_last as_san r.start (before ++ m ∷ []) ∷ [] else [])
    ++ texts_from r as_san S (other c) (before ++ m ∷ []) ms

-- ---- moves read

-- whether a line is a `move` line
abbrev pub is_move : LineKind → Bool
is_move (Moves text) = true
is_move _ = false

-- an engine's lines after the one that ends its handshake (with `done=1`); none if no line does
abbrev pub lines_after_handshake : List (Option (List ℕ)) → List (Option (List ℕ))
lines_after_handshake [] = []
lines_after_handshake (l ∷ ls) =
    if list_any ends_handshake (items_in_line (line_kind l)) then ls else lines_after_handshake ls

-- the lines after the first `pong 1`; none if no line is one
abbrev pub lines_after_pong : List (Option (List ℕ)) → List (Option (List ℕ))
lines_after_pong [] = []
lines_after_pong (l ∷ ls) = if is_pong 1 (line_kind l) then ls else lines_after_pong ls

-- the texts of the moves in `move` lines
abbrev pub moves_said : List (Option (List ℕ)) → List (List ℕ)
moves_said [] = []
moves_said (l ∷ ls) = move_said (line_kind l) ++ moves_said ls

-- the texts of the moves in an engine's `move` lines after its handshake and setup, in order
abbrev pub moves_of : List (Option (List ℕ)) → List (List ℕ)
moves_of lines = moves_said (lines_after_pong (lines_after_handshake lines))

-- after the moves `before`, the texts of two engines' `move` lines denote the moves `ms` in turn: `mine` are those of
-- the side to move. At most one text is left over: the one that ended the match
abbrev pub AreRead : Rules → List Move → List Move → List (List ℕ) → List (List ℕ) → Type 0
AreRead r before [] mine theirs = length mine + length theirs ≤ 1
AreRead r before (m ∷ ms) mine theirs =
    (text : List ℕ) × (rest : List (List ℕ)) × (mine ≡ text ∷ rest)
    × (reading (position_after r.start before) text ≡ reads.Move m)
    × AreRead r (before ++ m ∷ []) ms theirs rest

-- the items of an engine's `feature` lines, up to and with the line that has `done=1`; of all if none has it
abbrev pub items_said : List (Option (List ℕ)) → List Item
items_said [] = []
items_said (l ∷ ls) =
    let items = items_in_line (line_kind l) in
    items ++ (if list_any ends_handshake items then [] else items_said ls)

-- ---- clocks

-- a side's clock in centiseconds, rounded down: before the first and after each of its moves, given by the milliseconds
-- that they took. Before these it made `k` moves, which took `spent` milliseconds in all
abbrev pub centiseconds : LevelSeen → ℕ → ℕ → List ℕ → List ℕ
centiseconds level k spent [] = (allotted level k - spent) / 10 ∷ []
centiseconds level k spent (u ∷ us) = (allotted level k - spent) / 10 ∷ centiseconds level (k + 1) (spent + u) us

-- the number of a `time` line, as a list of one; empty for other lines
abbrev pub time_sent : SentLine → List ℕ
time_sent (Time n) = n ∷ []
time_sent _ = []

-- the number of an `otim` line, as a list of one; empty for other lines
abbrev pub otim_sent : SentLine → List ℕ
otim_sent (Otim n) = n ∷ []
otim_sent _ = []
