-- A game, and what each call does to it.
use Rattle.std.specs.Prelude.{◌≡◌, ℕ, ◌-◌, ◌≤◌, ◌<◌, ◌||◌, not, nat_le, Bool, false, if◌then◌else◌, List, [], ◌∷◌, ◌++◌, length, take, slice_get, Option, None, Some, is_some, Result, Ok, Err}
use Rattle.std.specs.Option.{option_map, option_map_or, option_or}
use Rattle.chess_base.specs.declared.man.Move.{Move}
use Rattle.chess_base.specs.declared.setup.Setup.{Setup}
use Rattle.chess_base.specs.Moves.{is_legal}
use Rattle.chess_base.specs.Sound.{IsSound}
use Rattle.chess_base.specs.Initial.{initial_setup}
use Rattle.chess_game.specs.Line.{position_after, IsLine}
use Rattle.chess_game.specs.Results.{same_outcome}
use Rattle.chess_game.specs.Ends.{verdict, verdict_result}
use Rattle.chess_game.specs.declared.verdicts.Verdict.{Verdict}
use Rattle.chess_game.specs.declared.results.Outcome.{Outcome}
use Rattle.chess_game.specs.declared.results.Outcome.TheVariants.{Unfinished}
use Rattle.chess_game.specs.declared.results.Declared.{Declared}
use Rattle.chess_game.specs.declared.game.PlayRefusal.{PlayRefusal}
use Rattle.chess_game.specs.declared.game.PlayRefusal.TheVariants.{Over, TooLong, Illegal}
use Rattle.chess_game.specs.declared.game.NoMove.{NoMove}
use Rattle.chess_game.specs.declared.game.BoardSaysOtherwise.{BoardSaysOtherwise}

-- a game: its start position, its moves, without those taken back, and the declared result, if any, as by resignation
pub record State : Type 0 where
  pub start : Setup
  pub moves : List Move
  pub declared : Option Declared

-- a `Game` in contracts: the most half-moves that it may have, and its state
pub record Seen : Type 0 where
  pub limit : ℕ
  pub state : State

-- the position after all moves of the game s
abbrev pub current : State → Setup
current s = position_after s.start s.moves

-- why the board ends the game, or `None`; a declared result doesn't matter
abbrev pub verdict_now : State → Option Verdict
verdict_now s = verdict s.start s.moves

-- the game is over: by a verdict, such as mate, or a declared result, even `*`
abbrev pub is_over : State → Bool
is_over s = is_some (verdict_now s) || is_some s.declared

-- the verdict's outcome, without one the declared result's, without both `Unfinished` (`*`)
abbrev pub outcome_now : State → Outcome
outcome_now s =
    option_map_or (λ d. d.outcome) (option_or (option_map verdict_result (verdict_now s)) s.declared) Unfinished

-- a game from this start: no moves, nothing declared
abbrev pub from_start : Setup → State
from_start start = record { start = start; moves = []; declared = None }

-- the state s after one more move, m
abbrev pub played : State → Move → State
played s m = record s { moves = s.moves ++ m ∷ [] }

-- the state s without its last n moves (without any move if it has fewer) and without a declared result
abbrev pub taken_back : State → ℕ → State
taken_back s n = record s { moves = take (length s.moves - n) s.moves; declared = None }

-- the game g with s as its state
abbrev pub with_state : Seen → State → Seen
with_state g s = record g { state = s }

-- a new game at the initial position, for at most `limit` half-moves
abbrev pub opened : ℕ → Seen
opened limit = record { limit = limit; state = from_start initial_setup }

-- the game has as many half-moves as its limit allows
abbrev pub is_full : Seen → Bool
is_full g = nat_le g.limit (length g.state.moves)

-- why no move may be played in the game, if so: it is over, or else full
abbrev pub refusal_now : Seen → Option PlayRefusal
refusal_now g = if is_over g.state then Some Over else if is_full g then Some TooLong else None

-- why move m may not be played, if so: the game is over, or else full, or else m is illegal
abbrev pub play_refusal : Seen → Move → Option PlayRefusal
play_refusal g m = option_or (refusal_now g) (if is_legal (current g.state) m then None else Some Illegal)

-- what a call returns: the reason to refuse it as an error, otherwise `Ok`
abbrev pub unless_refused : {E : Type 0} → Option E → Result (Unit {0}) E
unless_refused None = Ok tt
unless_refused (Some e) = Err e

-- the game g after a call to play move m: unchanged if there is a reason to refuse it (the last argument)
abbrev pub after_play : Seen → Move → Option PlayRefusal → Seen
after_play g m None = with_state g (played g.state m)
after_play g m (Some e) = g

-- the last of the moves, or the error `NoMove` if there are none
abbrev pub last_move : List Move → Result Move NoMove
last_move ms = by_end (slice_get ms (length ms - 1))
  where
    by_end : Option Move → Result Move NoMove
    by_end None = Err (record {})
    by_end (Some m) = Ok m

-- the game without its last move and its declared result; unchanged if it has no move
abbrev pub after_take_back : Seen → Seen
after_take_back g = if nat_le 1 (length g.state.moves) then with_state g (taken_back g.state 1) else g

-- there is a verdict, and its outcome is not o
abbrev pub contradicts_verdict : Option Verdict → Outcome → Bool
contradicts_verdict verdict o = option_map_or (λ v. not (same_outcome (verdict_result v).outcome o)) verdict false

-- the game g after a call to declare the result d: unchanged if a verdict has another outcome
abbrev pub after_declare : Seen → Declared → Seen
after_declare g d = if contradicts_verdict (verdict_now g.state) d.outcome then g
    else with_state g (record g.state { declared = Some d })

-- why a result with outcome o can't be declared, if so: a verdict has another outcome
abbrev pub declare_refusal : Seen → Outcome → Option BoardSaysOtherwise
declare_refusal g o = if contradicts_verdict (verdict_now g.state) o then Some (record {}) else None

-- what holds of every game: its start is sound, its moves are legal and no more than the limit, and no verdict came
-- before the last move
pub record IsPlayable (g : Seen) : Type 0 where
  pub start : IsSound g.state.start
  pub line : IsLine g.state.start g.state.moves
  pub limit : length g.state.moves ≤ g.limit
  pub unended : (k : ℕ) → k < length g.state.moves → verdict g.state.start (take k g.state.moves) ≡ None
