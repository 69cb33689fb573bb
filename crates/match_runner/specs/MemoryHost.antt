-- A host over memory: what its engines say, and what its clock shows, is given.
--
-- `MayCome` says which steps may come at it. They, the plan and the writes that fail determine a match's games (law
-- `OnlyOneMatchOfARun` of chess_match_laws), if the plan sets no limit to waiting. If it sets one, nothing here says
-- which looks for a line find none. Nor is it said when memory runs out.
use Rattle.std.specs.Prelude.{◌≡◌, ℕ, ◌-◌, ◌^◌, List, [], ◌∷◌, ◌++◌, Option, None, Some}
use Rattle.std.specs.List.{count_by, find, flat_map, last_or, slice_get}
use Rattle.std.specs.Option.{option_and_then, option_map, option_or}
use Rattle.std.specs.Str.{bytes_eq}
use Rattle.byte_devices.specs.Transfers.{Devices}
use Rattle.chess_base.specs.declared.man.Colour.TheVariants.{White, Black}
use Rattle.match_runner.specs.declared.fault.GamesFault.{GamesFault}
use Rattle.match_runner.specs.declared.fault.GamesFault.TheVariants.{NoMemory, CanNotStart}
use Rattle.match_runner.specs.declared.memory_host.MemoryEngine.{MemoryEngine}
use Rattle.match_runner.specs.declared.memory_host.MemoryGame.{MemoryGame}
use Rattle.match_runner.specs.declared.memory_host.MemoryHost.{MemoryHost}
use Rattle.match_runner.specs.Games.{none_killed}
use Rattle.match_runner.specs.GamesTable.{HostStep, OpensClock, Starts, StartFails, Finishes}

-- the moment of a clock's reading n, from 0 on: these moments one after another, then the last again and again;
-- `shown`, if there are none
abbrev pub moment_at : ℕ → List ℕ → ℕ → Option ℕ
moment_at shown moments n = option_or (slice_get moments n) (last_or (Some shown) moments)

-- what the first of these engines with this command says, after `times` earlier starts; `None` if none has the command,
-- or nothing is given for this start
abbrev pub text_of_start : List MemoryEngine → List ℕ → ℕ → Option (List ℕ)
text_of_start engines command times =
    option_and_then (λ e. option_map (λ text. text.now) (slice_get e.outputs.now times))
    (find (λ e. bytes_eq e.command.now command) engines)

-- what the engine with this command says if it is started after those with the commands `earlier`
abbrev pub next_text : List MemoryEngine → List (List ℕ) → List ℕ → Option (List ℕ)
next_text engines earlier command = text_of_start engines command (count_by (λ c. bytes_eq c command) earlier)

-- the pipes of an engine just started that will say just this text: the arbiter reads `input` and writes `output`
abbrev pub fresh_pipes : List ℕ → Devices
fresh_pipes text = record {
  input = record {
    known_bytes = Some text;
    failure_count = 0;
    end_count = 0;
    last_len = 0;
    -- as many reads may still succeed as a u64 can count
    pieces_left = 2 ^ 64 - 1;
    silence_count = 0;
  };
  output = record { known_bytes = Some []; failure_count = 0; unflushed = 0 };
}

-- the commands of the engines that this step started
abbrev pub started_by : HostStep → List (List ℕ)
started_by (Starts white black limit pipes) = white ∷ black ∷ []
started_by _ = []

-- the commands of the engines that these steps started
abbrev pub started_in : List HostStep → List (List ℕ)
started_in steps = flat_map started_by steps

-- the fault of starting engines with these commands, by the texts that they would say (`None`: nothing is given):
-- White's can't be started; or Black's can't; or both can, but memory ran out
abbrev pub IsFaultOfStart : List ℕ → List ℕ → Option (List ℕ) → Option (List ℕ) → GamesFault → Type 0
IsFaultOfStart white black None _ (CanNotStart command) = command.now ≡ white
IsFaultOfStart white black (Some _) None (CanNotStart command) = command.now ≡ black
IsFaultOfStart white black (Some _) (Some _) fault = fault ≡ NoMemory
IsFaultOfStart white black _ _ _ = ⊥

-- this step may come next at a host with these engines and moments, after engines with the commands `earlier` were
-- started
abbrev pub IsNext : List MemoryEngine → List ℕ → List (List ℕ) → HostStep → Type 0
IsNext engines moments earlier (OpensClock coming) = coming ≡ moment_at 0 moments
-- each engine will say what is given for this start; White's is started first
IsNext engines moments earlier (Starts white black limit pipes) =
    (option_map fresh_pipes (next_text engines earlier white) ≡ Some (pipes White))
    × (option_map fresh_pipes (next_text engines (earlier ++ white ∷ []) black) ≡ Some (pipes Black))
-- nothing is given for one of these starts, or memory ran out
IsNext engines moments earlier (StartFails white black limit fault) =
    IsFaultOfStart white black (next_text engines earlier white) (next_text engines (earlier ++ white ∷ []) black) fault
-- no engine has to be killed
IsNext engines moments earlier (Finishes pipes limit killed) = killed ≡ none_killed

-- the commands of the engines started for these games
abbrev pub started_for : List MemoryGame → List (List ℕ)
started_for games = flat_map (λ g. g.commands.white.now ∷ g.commands.black.now ∷ []) games

-- just these steps may come at this host from now on
pub record MayCome (host : MemoryHost) (steps : List HostStep) : Type 0 where
  -- each is one that may come next (`IsNext`) after the engines that were started for the host's games and those that
  -- were started in the steps before it
  pub each : (before : List HostStep) (step : HostStep) (after : List HostStep) → before ++ step ∷ after ≡ steps
      → IsNext host.engines.now host.moments.now (started_for host.games.items ++ started_in before) step
