-- When the code's state (the core) and its game stand for a match of the definitions, and what the core gives to send.
use Rattle.std.specs.Prelude.{◌≡◌, ℕ, Bool, true, false, if◌then◌else◌, List, [], ◌∷◌, ◌++◌, length, sum, codes, Option, None, Some}
use Rattle.std.specs.Option.{option_map_or}
use Rattle.chess_base.specs.declared.man.Colour.{Colour}
use Rattle.chess_base.specs.declared.man.Colour.TheVariants.{White, Black}
use Rattle.chess_base.specs.declared.man.Move.{Move}
use Rattle.chess_base.specs.ByColour.{of_colour, with_colour}
use Rattle.chess_base.specs.Men.{other, same_colour}
use Rattle.chess_base.specs.Options.{list_if}
use Rattle.chess_game.specs.Ends.{result_text, verdict}
use Rattle.chess_game.specs.Results.{cut_tag}
use Rattle.cecp_engine.specs.Clocks.{ClocksSeen, SideSeen, charged}
use Rattle.cecp_engine.specs.EngineLines.{LineKind}
use Rattle.cecp_engine.specs.Items.{Item, last_said}
use Rattle.cecp_engine.specs.Seen.{features_of}
use Rattle.cecp_engine.specs.Levels.{LevelSeen}
use Rattle.chess_match.specs.Acts.{is_over}
use Rattle.chess_match.specs.Effects.{Match, Phase, Handshake, Setup, Opening, BeforeMove, AfterMove, Over, Effect, handshake_lines, is_owed_move, move_line, opening, ping_number, answers_to}
use Rattle.chess_match.specs.laws.Laws.{items_in_line}
use Rattle.chess_match.specs.Events.{Seat}
use Rattle.chess_match.specs.Rules.{Rules}
use Rattle.chess_match.specs.Lines.{SentLine, Says, ping, setup_lines}
use Rattle.chess_match.specs.Reasons.{is_write_fault_of, reported_reason, result_of}
use Rattle.chess_match.specs.declared.phase.Phase.{Phase as CorePhase}
use Rattle.chess_match.specs.declared.phase.Phase.TheVariants as core_in
use Rattle.chess_match.specs.declared.reason.Reason.{Reason}
use Rattle.chess_match.specs.declared.state.Player.{Player}
use Rattle.chess_match.specs.declared.state.Actions.{Actions}
use Rattle.chess_match.specs.declared.state.MatchState.{MatchState}
use Rattle.chess_match.specs.declared.texts.LastMove.{LastMove}
use Rattle.chess_match.specs.declared.texts.MoveTexts.{MoveTexts}
use Rattle.chess_match.specs.ties.Texts.{AreOfLast, unsent_in}

-- ---- what the core stands for

-- the name that an engine with these items gave by its last `myname`, cut so that a PGN tag can hold it; empty if it
-- gave none
unfoldable pub name_by : List Item → List ℕ
name_by items = cut_tag (last_said (λ v. v.text) [] (codes "myname") items)

-- what the code keeps of an engine (`kept`: features, name, and whether its offer of a draw is open) is what the
-- definitions know of it (`known`)
pub record Keeps (kept : Player) (known : Seat) : Type 0 where
  pub features : kept.features ≡ features_of known.items
  pub name : kept.name ≡ name_by known.items
  pub offers : kept.offers ≡ known.offers

-- a side's clock: its time control, how many moves it made, and the sum of the milliseconds that they took
abbrev pub side_of : LevelSeen → Seat → SideSeen
side_of level s = record { level = level; moves = length s.used; used = sum s.used }

-- the clocks of the match `m`, in which each side has the time control that `level` gives it
abbrev pub clocks_of : (Colour → LevelSeen) → Match → ClocksSeen
clocks_of level m =
    record { white = side_of (level White) (m.seat White); black = side_of (level Black) (m.seat Black) }

-- the phase of a match that a phase of the code stands for; `opened` is the moment at which the turn began
abbrev pub phase_of : ℕ → CorePhase → Phase
phase_of opened (core_in.Handshake c) = Handshake c
phase_of opened (core_in.Setup c) = Setup c
phase_of opened (core_in.SendTurn c) = Opening c
phase_of opened (core_in.AwaitMove c) = BeforeMove c opened
phase_of opened (core_in.AwaitPong c) = AfterMove c
phase_of opened (core_in.Over reason) = Over reason

-- whether the side `S` is still to be sent the last move, by what the code keeps of this move (`None`: there is none)
abbrev pub is_unsent : Option LastMove → Colour → Bool
is_unsent last S = option_map_or (λ c. same_colour c S) (unsent_in last) false

-- the code's state `core` and the moves `played` of its game are, by the rules `r`, the match `m` of the definitions.
-- In a match that is over, `core` still has who is to be sent the last move, as it was before the end
pub record Represents (r : Rules) (core : MatchState) (played : List Move) (m : Match) : Type 0 where
  pub phase : m.phase ≡ phase_of core.opened core.phase
  pub white : Keeps core.players.white (m.seat White)
  pub black : Keeps core.players.black (m.seat Black)
  pub clocks : core.clocks ≡ clocks_of r.level m
  pub moves : played ≡ m.played
  pub last : AreOfLast r core.last m.played
  pub unsent : is_over m.phase ≡ false → (S : Colour) → is_unsent core.last S ≡ is_owed_move m.phase S
  pub count : core.count ≡ m.count
  pub since : core.since ≡ m.since
  pub patience : core.patience ≡ r.patience
  pub draws : core.draws ≡ r.draws

-- what the code's state keeps of the engine of this side
abbrev pub player : MatchState → Colour → Player
player core S = of_colour core.players S

-- ---- what the core gives to send

-- the lines `text` if `S` is the side that the option names, otherwise no lines
abbrev pub lines_if_to : Option Colour → Colour → List SentLine → List SentLine
lines_if_to None S text = []
lines_if_to (Some c) S text = if same_colour c S then text else []

-- what items the side `S` is to be sent answers to: these, if `S` is the side `c`, otherwise none
abbrev pub items_to : Colour → List Item → Colour → List Item
items_to c items S = if same_colour c S then items else []

-- no items, for either side: the event brought none that must be answered
abbrev pub nothing_said : Colour → List Item
nothing_said S = []

-- the items that each side is to be sent answers to, after a line that comes in this phase: those of the line in a
-- handshake, in which alone they count
abbrev pub items_in : CorePhase → LineKind → Colour → List Item
items_in (core_in.Handshake c) kind = items_to c (items_in_line kind)
items_in _ kind = nothing_said

-- the lines that end the match for the side `S`, by the reason that is reported; `m` is the match, and `owed` says
-- whether the last move is among them
abbrev pub last_lines : Rules → Match → Reason → Bool → Colour → List SentLine
last_lines r m reason owed S = list_if owed (move_line r m S ∷ [])
    ++ (Says (codes "result " ++ result_text (result_of reason)) ∷ Says (codes "quit") ∷ [])

-- the lines that the side `S` is sent when the match comes into this phase and is then `m`; `last` is what is kept of
-- the last move
abbrev pub phase_lines : Rules → Option LastMove → Match → Colour → CorePhase → List SentLine
phase_lines r last m S (core_in.Handshake c) = list_if (same_colour c S) handshake_lines
phase_lines r last m S (core_in.Setup c) = list_if (same_colour c S) (setup_lines r c)
phase_lines r last m S (core_in.SendTurn c) = list_if (same_colour c S) (opening r m c)
phase_lines r last m S (core_in.AwaitMove c) = []
phase_lines r last m S (core_in.AwaitPong c) = list_if (same_colour c S) (ping (ping_number m c) ∷ [])
phase_lines r last m S (core_in.Over reason) =
    if is_write_fault_of reason S then []
    else last_lines r m (reported_reason (verdict r.start m.played) reason) (is_unsent last S) S

-- what the side `S` is sent after the answers to its items, by the code's `given`: `draw`, if the other offered one,
-- and the lines of the code's phase, if it was entered
abbrev pub after_answers : Rules → MatchState → Actions → Match → Colour → List SentLine
after_answers r core given m S = lines_if_to given.draw S (Says (codes "draw") ∷ [])
    ++ (if given.entered then phase_lines r core.last m S core.phase else [])

-- all that the side `S` is sent at an event, after which the match is `m`: answers to its `items`, and by the code's
-- `given` an offer of a draw and the lines of a new phase
unfoldable pub given_lines : Rules → MatchState → Actions → (Colour → List Item) → Match → Colour → List SentLine
given_lines r core given items m S = answers_to (items S) ++ after_answers r core given m S

-- a step of the code has this effect: after it the code's state is `core` with the moves `played`, and what it sends to
-- each side, by `given` and as answers to `items`, is just what the effect says
pub record Goes (r : Rules) (core : MatchState) (played : List Move) (given : Actions) (items : Colour → List Item)
    (e : Effect) : Type 0 where
  pub stands : Represents r core played e.after
  pub gives : (S : Colour) → given_lines r core given items e.after S ≡ e.to S

-- ---- steps of the core

-- the code's state `core`, but this side's offer of a draw is open
abbrev pub offered_core : MatchState → Colour → MatchState
offered_core core S = record core { players = with_colour core.players S (record (player core S) { offers = true }) }

-- the code's state `core` after this side played a move, which took `used` milliseconds and has these texts: its clock
-- is charged, the other's offer of a draw lapses, and the move is still to be sent to the other
abbrev pub played_core : MatchState → Colour → ℕ → MoveTexts → MatchState
played_core core S used texts = record core {
  phase = core_in.AwaitPong S;
  last = Some (record { texts = texts; unsent_to = Some (other S) });
  clocks = charged core.clocks S used;
  players = with_colour core.players (other S) (record (player core (other S)) { offers = false });
}
