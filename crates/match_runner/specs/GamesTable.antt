-- The steps of a match: calls of its host, which starts and ends engines and has the clock, and of the table at which
-- its games are played.
use Rattle.std.specs.Prelude.{◌≡◌, ⊤, ◌⊎◌, ℕ, ◌+◌, Bool, if◌then◌else◌, List, [], ◌∷◌, ◌++◌, length, flat_map, Option, None, Some, Result, Ok, Err}
use Rattle.std.specs.Option.{option_to_list}
use Rattle.chess_base.specs.declared.man.Colour.{Colour}
use Rattle.chess_base.specs.declared.man.Colour.TheVariants.{White, Black}
use Rattle.chess_base.specs.declared.by_colour.ByColour.{ByColour}
use Rattle.match_runner.specs.declared.fault.GamesFault.{GamesFault}
use Rattle.match_runner.specs.declared.fault.GamesFault.TheVariants.{NoMemory, CanNotStart}
use Rattle.chess_match.specs.declared.games_plan.GamesPlan.{GamesPlan}
use Rattle.byte_devices.specs.Devices.{OutputState}
use Rattle.byte_devices.specs.Transfers.{Devices, ToOutput, OutputTook}
use Rattle.match_runner.specs.Games.{GameRecord, LogsGames, WritesGames, engine_command, game_by_game, game_text, none_killed}
use Rattle.match_runner.specs.Log.{LogSeen}

-- ---- one call

-- one call of a method of the trait `Host`
pub data HostStep : Type 0 where
  -- a clock was opened; its reading n, from 0 on, will show the moment `coming n` (`None`: not known)
  OpensClock : (coming : ℕ → Option ℕ) → HostStep
  -- engines with these commands were started, and `engines` are their pipes. A write to them waits for at most `limit`
  -- milliseconds (`None`: as long as it takes)
  Starts : (white : List ℕ) → (black : List ℕ) → (limit : Option ℕ) → (engines : Colour → Devices) → HostStep
  -- starting engines with these commands failed with `fault`, and neither runs
  StartFails : (white : List ℕ) → (black : List ℕ) → (limit : Option ℕ) → (fault : GamesFault) → HostStep
  -- the inputs of the engines with these pipes were closed; `killed` says which were killed, not having ended after
  -- `limit` milliseconds (`None`: no limit)
  Finishes : (engines : Colour → Devices) → (limit : Option ℕ) → (killed : ByColour Bool) → HostStep

-- the step of starting engines with these commands, White's first, by its result; `engines` gives their pipes
abbrev pub starting : {E : Type 0} → (E → Colour → Devices) → List ℕ → List ℕ → Option ℕ → Result E GamesFault
    → HostStep
starting engines white black limit (Ok started) = Starts white black limit (engines started)
starting engines white black limit (Err fault) = StartFails white black limit fault

-- one call of a method of the trait `GamesTable`
pub data GamesStep : Type 0 where
  -- a step of the host
  AtHost : (step : HostStep) → GamesStep
  -- the started engines played this game; in its record none is killed yet
  Plays : (played : GameRecord) → GamesStep
  -- this text, a PGN, was written and flushed
  Writes : (text : List ℕ) → GamesStep
  -- a write or flush of this text failed
  WriteFails : (text : List ℕ) → GamesStep

-- the step of writing and flushing this text; `failed`: whether that failed
abbrev pub writing : Bool → List ℕ → GamesStep
writing failed text = if failed then WriteFails text else Writes text

-- a table's step, if it is one of the host, as a list of one; otherwise the empty list
abbrev pub of_host : GamesStep → List HostStep
of_host (AtHost step) = step ∷ []
of_host _ = []

-- the host's steps among these of a table
abbrev pub at_host : List GamesStep → List HostStep
at_host steps = flat_map of_host steps

-- ---- what passed

-- what contracts see of a host: of each list of steps, the claim that just these may come from now on, in this order
abbrev pub HostFuture : Type 1
HostFuture = List HostStep → Type 0

-- a host at which any steps may come
abbrev pub anything : HostFuture
anything steps = ⊤

-- as `HostFuture`, of a table
abbrev pub GamesFuture : Type 1
GamesFuture = List GamesStep → Type 0

-- `steps` passed, in this order. `old` claims of a list of steps that it may come from before them on, `new` that it
-- may come after them. If `new` holds of a list, `old` holds of `steps` followed by it. So if each holds of just one
-- list, `old`'s is `steps` followed by `new`'s; if `old` is `anything`, nothing is claimed
pub record StepsPass {S : Type 0} (old new : List S → Type 0) (steps : List S) : Type 0 where
  pub extends : (after : List S) → new after → old (steps ++ after)

-- ---- the steps of a match

-- the steps of the game of this number. `write` is `Writes` or, if its PGN could not be written, `WriteFails`. The
-- plan's limit for replies also holds for writes to engines and waiting for their ends
abbrev pub steps_by : (List ℕ → GamesStep) → GamesPlan → ℕ → GameRecord → List GamesStep
steps_by write plan number played =
    AtHost (Starts (engine_command plan number White) (engine_command plan number Black) plan.patience.reply
    played.before.engines)
    ∷ Plays (record played { killed = none_killed }) ∷ write (game_text plan number played)
    ∷ AtHost (Finishes played.after.engines plan.patience.reply played.killed) ∷ []

-- the one step of the game of this number if its engines can't be started (`fault` says why)
abbrev pub unstarted_steps : GamesPlan → ℕ → GamesFault → List GamesStep
unstarted_steps plan number fault =
    AtHost (StartFails (engine_command plan number White) (engine_command plan number Black) plan.patience.reply fault)
    ∷ []

-- the steps of these games, numbered from 1, all of them written
abbrev pub games_steps : GamesPlan → List GameRecord → List GamesStep
games_steps plan games = game_by_game (steps_by Writes plan) games

-- a match's steps after those of its written games, by its result. `number` is that of the next game; the last argument
-- is its record, if it was played but could not be written. Writing the score is no step
abbrev pub last_steps : GamesPlan → ℕ → Result (Unit {0}) GamesFault → Option GameRecord → List GamesStep
-- the PGN of the next game could not be written
last_steps plan number result (Some unwritten) = steps_by WriteFails plan number unwritten
-- the engines of the next game could not be started
last_steps plan number (Err NoMemory) None = unstarted_steps plan number NoMemory
last_steps plan number (Err (CanNotStart command)) None = unstarted_steps plan number (CanNotStart command)
-- any other result: no next game was begun
last_steps plan number _ None = []

-- these pipes are like those of an engine just started: no failure, end, silence or unflushed byte is counted
pub record AreFresh (pipes : Devices) : Type 0 where
  pub reads : pipes.input.failure_count ≡ 0
  pub ends : pipes.input.end_count ≡ 0
  pub silences : pipes.input.silence_count ≡ 0
  pub writes : pipes.output.failure_count ≡ 0
  pub flushed : pipes.output.unflushed ≡ 0

-- the game began with engines just started, and with a clock whose reading n, from 0 on, would show `coming n`
abbrev pub BeginsAt : (ℕ → Option ℕ) → GameRecord → Type 0
BeginsAt coming played = ((S : Colour) → AreFresh (played.before.engines S)) × (played.before.coming ≡ coming)

-- these games came one after another, each with engines just started, and all with one clock, whose readings go on from
-- game to game; at first its reading n would show `coming n`
abbrev pub ComeInTurn : (ℕ → Option ℕ) → List GameRecord → Type 0
ComeInTurn coming [] = ⊤
ComeInTurn coming (played ∷ games) = BeginsAt coming played × ComeInTurn played.after.coming games

-- ---- a match

-- a match's output (games and score) and log, as contracts see them
pub record Outputs : Type 0 where
  pub output : OutputState
  pub log : LogSeen

-- a match ended with `result`, took its output and log from `d` to `d'`, and had a clock whose reading n would show
-- `coming n`; `passes` holds of its steps at the table. `games`, maybe none, were played and written; `unwritten`
-- (`None`: no game) was played after them but could not be written
abbrev pub PlaysBy : GamesPlan → Result (Unit {0}) GamesFault → (ℕ → Option ℕ) → (List GamesStep → Type 0) → Outputs
    → Outputs → Type 0
PlaysBy plan result coming passes d d' = (games : List GameRecord) × (unwritten : Option GameRecord)
    -- the output took what `WritesGames` says; all games were logged, also `unwritten`
    × ((o : ToOutput) × WritesGames plan result games unwritten o × OutputTook d.output d'.output o
    × LogsGames plan d.log d'.log (games ++ option_to_list unwritten))
    × ComeInTurn coming (games ++ option_to_list unwritten)
    -- the steps of `games`, then those of the next game, if it was begun
    × passes (games_steps plan games ++ last_steps plan (length games + 1) result unwritten)

-- a match was played at a table (`PlaysBy`): `p` says what may come there from before the match on, `p'` after it
abbrev pub PlaysGamesAt : GamesPlan → Result (Unit {0}) GamesFault → (ℕ → Option ℕ) → GamesFuture → GamesFuture
    → Outputs → Outputs → Type 0
PlaysGamesAt plan result coming p p' d d' = PlaysBy plan result coming (StepsPass p p') d d'

-- a match was played with a host (`PlaysBy`), at which just `steps` passed: a clock was opened, whose reading n would
-- show `c n`, and then came the table's steps that are the host's. Or memory ran out before, and nothing was done
abbrev pub PlaysGamesWith : GamesPlan → Result (Unit {0}) GamesFault → List HostStep → Outputs → Outputs → Type 0
PlaysGamesWith plan result steps d d' =
    ((c : ℕ → Option ℕ) × PlaysBy plan result c (λ at_table. steps ≡ OpensClock c ∷ at_host at_table) d d')
    ⊎ ((result ≡ Err NoMemory) × (steps ≡ []) × (d' ≡ d))
