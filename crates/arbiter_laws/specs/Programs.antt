-- What the program does with certain arguments. Of a run, `s` and `s'` are its surroundings before and after, `steps`
-- the steps at its host, and `status` is its exit status.
use Rattle.std.specs.Prelude.{◌≡◌, ◌⊎◌, ℕ, List, [], Result, Ok}
use Rattle.clap.specs.Words.{Text}
use Rattle.arbiter_cli.specs.Plans.{IsReadAs, Said}
use Rattle.arbiter_cli.specs.declared.plan.Plan.{Plan}
use Rattle.arbiter_cli.specs.declared.plan.Plan.TheVariants.{Session}
use Rattle.arbiter_cli.specs.declared.fault.WordsFault.{WordsFault}
use Rattle.arbiter_laws.specs.Arguments.{bare_plan}
use Rattle.arbiter_laws.specs.PlainArguments.{CommandLine, IsPlain, arguments_of, said_in}
use Rattle.chess_arbiter.specs.Program.{Does, RanProgram, Surroundings, WritesHelp}
use Rattle.match_runner.specs.GamesTable.{HostStep}

-- the program did what its arguments say, or ended by a fault: an invalid level, FEN, date or kind after `--ignore`, or
-- memory ran out. `clap` has no fault to report (`[]`)
abbrev pub DidAsSaid : Said → Surroundings → Surroundings → List HostStep → ℕ → Type 0
DidAsSaid said s s' steps status =
    (read : Result Plan WordsFault) × IsReadAs [] said read × Does read s s' steps status

-- with plain arguments the program does what they say, or ends by a fault (`DidAsSaid`)
abbrev pub PlainArgumentsAreFollowed : Type 0
PlainArgumentsAreFollowed = (line : CommandLine) (s s' : Surroundings) (steps : List HostStep) (status : ℕ)
    → IsPlain line → RanProgram (arguments_of line) s s' steps status → DidAsSaid (said_in line) s s' steps status

-- with these arguments the program does what the plan of a session says
abbrev pub ServesSession : List Text → Type 0
ServesSession arguments = (s s' : Surroundings) (steps : List HostStep) (status : ℕ)
    → RanProgram arguments s s' steps status → Does (Ok Session) s s' steps status

-- with these arguments the program does what the plan of `verify` without options says
abbrev pub VerifiesGames : List Text → Type 0
VerifiesGames arguments = (s s' : Surroundings) (steps : List HostStep) (status : ℕ)
    → RanProgram arguments s s' steps status → Does (Ok bare_plan) s s' steps status

-- with these arguments the program writes a text, such as the help, to its output, or fails to (`WritesHelp`); it reads
-- nothing, and starts nothing
abbrev pub ShowsHelp : List Text → Type 0
ShowsHelp arguments = (s s' : Surroundings) (steps : List HostStep) (status : ℕ)
    → RanProgram arguments s s' steps status
    → (steps ≡ []) × (s'.devices.input ≡ s.devices.input) × WritesHelp s.devices.output s'.devices.output status

-- with these arguments the program reads nothing, writes nothing to its output, starts nothing, and has the exit status
-- 2, or 1, as when memory ran out
abbrev pub RefusesArguments : List Text → Type 0
RefusesArguments arguments = (s s' : Surroundings) (steps : List HostStep) (status : ℕ)
    → RanProgram arguments s s' steps status
    → (steps ≡ []) × (s'.devices ≡ s.devices) × ((status ≡ 2) ⊎ (status ≡ 1))
