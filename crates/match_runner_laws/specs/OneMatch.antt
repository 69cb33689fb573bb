-- A match at a host over memory is fixed by the host and the plan, if nothing fails and waiting has no limit.
use Rattle.std.specs.Prelude.{◌≡◌, ⊤, ℕ, List, [], ◌∷◌, Option, Result, Ok, Err}
use Rattle.std.specs.List.{AllByRecursion, flat_map}
use Rattle.byte_devices.specs.Transfers.{OutputTook, all_of}
use Rattle.chess_base.specs.declared.man.Colour.{Colour}
use Rattle.chess_base.specs.declared.man.Colour.TheVariants.{White, Black}
use Rattle.chess_match_laws.specs.OfActs.{endless}
use Rattle.match_runner.specs.Games.{report_of}
use Rattle.match_runner.specs.GamesTable.{HostStep, Finishes, Outputs, PlaysGamesWith}
use Rattle.match_runner.specs.Log.{Logged}
use Rattle.match_runner.specs.MemoryHost.{MayCome}
use Rattle.match_runner.specs.declared.fault.GamesFault.{GamesFault}
use Rattle.match_runner.specs.declared.fault.GamesFault.TheVariants.{Game}
use Rattle.match_runner.specs.declared.memory_host.MemoryHost.{MemoryHost}
use Rattle.chess_match.specs.declared.games_plan.GamesPlan.{GamesPlan}

-- if engines are ended in this step, no read, write or flush at their pipes had failed
abbrev pub FinishesWell : HostStep → Type 0
FinishesWell (Finishes engines limit killed) =
    (S : Colour) → ((engines S).input.failure_count ≡ 0) × ((engines S).output.failure_count ≡ 0)
FinishesWell _ = ⊤

-- what the engines that are ended in this step were sent: White's, and Black's (`None`: not known)
abbrev pub sent_by_then : HostStep → List (Option (List ℕ))
sent_by_then (Finishes engines limit killed) =
    (engines White).output.known_bytes ∷ (engines Black).output.known_bytes ∷ []
sent_by_then _ = []

-- what all engines were sent, game by game
abbrev pub sent_in : List HostStep → List (Option (List ℕ))
sent_in steps = flat_map sent_by_then steps

-- with this result of a match its score was written: all games were played, or those up to and with one in which an
-- engine had a fault
abbrev pub HasScore : Result (Unit {0}) GamesFault → Type 0
HasScore (Ok _) = ⊤
HasScore (Err (Game number fault)) = ⊤
HasScore _ = ⊥

-- a match by this plan was played at this host to its score, from the outputs `d` to `d'`, by these steps, and nothing
-- failed at its engines' pipes
pub record WentWell (plan : GamesPlan) (host : MemoryHost) (steps : List HostStep) (d d' : Outputs) : Type 0 where
  pub result : Result (Unit {0}) GamesFault
  pub played : PlaysGamesWith plan result steps d d'
  pub at_host : MayCome host steps
  pub scored : HasScore result
  pub nothing_failed : AllByRecursion FinishesWell steps

-- two matches by one plan without limits to waiting, which both went well at one host over memory (`WentWell`), wrote
-- the same, logged the same, sent each engine the same, and reported the same fault, or none
abbrev pub OneMatchOfAHost : Type 0
OneMatchOfAHost = (plan : GamesPlan) (host : MemoryHost) (steps steps' : List HostStep) (d d' e e' : Outputs)
    → plan.patience ≡ endless → (one : WentWell plan host steps d d') (other : WentWell plan host steps' e e')
    → ((text : List ℕ) × OutputTook d.output d'.output (all_of text) × OutputTook e.output e'.output (all_of text))
    × ((log : List ℕ) × Logged d.log d'.log log × Logged e.log e'.log log)
    × (sent_in steps ≡ sent_in steps')
    × (report_of one.result ≡ report_of other.result)
