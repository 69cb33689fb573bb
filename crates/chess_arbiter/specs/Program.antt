-- What the program does with its arguments, its devices and its host.
use Rattle.std.specs.Prelude.{◌≡◌, ◌≢◌, ◌⊎◌, ℕ, Bool, false, cond, if◌then◌else◌, List, [], Result, Ok, Err, is_ok}
use Rattle.clap.specs.Words.{Text, kind_of}
use Rattle.clap.specs.declared.error.kind.ErrorKind.TheVariants.{DisplayHelp, DisplayVersion}
use Rattle.arbiter_cli.specs.Plans.{IsReading}
use Rattle.arbiter_cli.specs.declared.plan.Plan.{Plan}
use Rattle.arbiter_cli.specs.declared.plan.Plan.TheVariants.{Session, Verify, Stub, Match}
use Rattle.arbiter_cli.specs.declared.fault.WordsFault.{WordsFault}
use Rattle.arbiter_cli.specs.declared.fault.WordsFault.TheVariants as faults
use Rattle.byte_devices.specs.Devices.{OutputState}
use Rattle.byte_devices.specs.Transfers.{ToOutput, Devices, OutputTook, Ran, nothing, all_of, BreaksOffIn}
use Rattle.chess_cecp.specs.declared.run.End.{End}
use Rattle.chess_cecp.specs.declared.run.Fault.{Fault}
use Rattle.chess_cecp.specs.Held.{opened_session}
use Rattle.pgn_writer.specs.Tags.{default_tags}
use Rattle.chess_cecp.specs.Serving.{Server}
use Rattle.chess_cecp.specs.Session.{session_response}
use Rattle.chess_cecp.specs.Served.{Served}
use Rattle.chess_arbiter.specs.declared.fault.ProgramFault.{ProgramFault}
use Rattle.pgn_verifier.specs.declared.fault.VerifyFault.{VerifyFault}
use Rattle.pgn_verifier.specs.declared.tally.Verified.{Verified}
use Rattle.pgn_verifier.specs.declared.tally.Verified.TheVariants.{EachGame}
use Rattle.pgn_verifier.specs.Collection.{VerifiesCollection}
use Rattle.pgn_verifier.specs.Verify.{Verifies}
use Rattle.match_runner.specs.GamesTable.{HostStep, PlaysGamesWith}
use Rattle.match_runner.specs.declared.fault.GamesFault.{GamesFault}
use Rattle.match_runner.specs.Games.{report_of}
use Rattle.match_runner.specs.Log.{LogSeen, Logged}
use Rattle.stub_engine.specs.Stub.{stub_response, waiting}
use Rattle.chess_arbiter.specs.declared.fault.ProgramFault.TheVariants.{InvalidArguments}
use Rattle.chess_game.specs.declared.game.TheConstants.{MOST_MOVES}

-- a result's exit status: 1 for an error, otherwise 0
abbrev pub status_of : {A E : Type 0} → Result A E → ℕ
status_of result = if is_ok result then 0 else 1

-- the exit status of a fault of the program
abbrev pub fault_status : ProgramFault → ℕ
fault_status InvalidArguments = 2
fault_status _ = 1

-- the server `respond` began in the state `s` and answered the input's lines on the output (`Served`), which took the
-- devices from `d` to `d'`. The exit status is 1 if a read, a write or a flush failed, otherwise 0
abbrev pub Serves : {S : Type 0} → Server S → S → Devices → Devices → ℕ → Type 0
Serves {S} respond s d d' status =
    (result : Result End Fault) × (s' : S) × Ran (Served respond s s' result) d d' × (status ≡ status_of result)

-- the exit status of `verify`, by its result: 0 if all was verified and no fault was reported, otherwise 1
abbrev pub verify_status : Result Verified VerifyFault → ℕ
verify_status (Ok EachGame) = 0
verify_status _ = 1

-- some text (which is not said) was to be written to the output, which went from `w` to `w'`. Status 0: all of it was
-- written and flushed. Status 1: a write or a flush failed after a beginning, maybe nothing or all; or the output is as
-- before, as when memory ran out
abbrev pub WritesHelp : OutputState → OutputState → ℕ → Type 0
WritesHelp w w' status = ((status ≡ 0) × (text : List ℕ) × OutputTook w w' (all_of text))
    ⊎ ((status ≡ 1) × ((w' ≡ w) ⊎ ((text : List ℕ) × (o : ToOutput) × OutputTook w w' o × BreaksOffIn nothing text o)))

-- what is done with arguments that give no plan, by the fault that says why: the output goes from `w` to `w'` (only
-- help or the version is written), and `status` is the exit status. What is written to the error output is not said
abbrev pub ReportsArguments : WordsFault → OutputState → OutputState → ℕ → Type 0
-- an error of `clap`, the parser of arguments; a request for help or the version counts as one
ReportsArguments (faults.Words e) w w' status =
    (((kind_of e ≡ DisplayHelp) ⊎ (kind_of e ≡ DisplayVersion)) × WritesHelp w w' status)
    ⊎ ((kind_of e ≢ DisplayHelp) × (kind_of e ≢ DisplayVersion) × (w' ≡ w) × (status ≡ 2))
-- memory ran out
ReportsArguments faults.NoMemory w w' status = (w' ≡ w) × (status ≡ 1)
-- an invalid level, FEN or date of a match, or kind to ignore
ReportsArguments _ w w' status = (w' ≡ w) × (status ≡ 2)

-- this text was written to a log's output, even if the log was broken; if a write or flush failed (`failed`), only a
-- beginning, maybe nothing or all. The log went from `l` to `l'`, and is broken just if it was before
abbrev pub Reports : List ℕ → LogSeen → LogSeen → Type 0
Reports text l l' = (l'.broken ≡ l.broken)
    × ((failed : Bool) × Logged (record l { broken = false }) (record l' { broken = failed }) text)

-- the program's input, output and error output
pub record Surroundings : Type 0 where
  pub devices : Devices
  -- its error output, as a log (an output, and whether it is broken), since a match writes its log there
  pub errors : LogSeen

-- the program did what its plan says, or what the fault calls for if there is no plan (`Err`). `s` and `s'` are its
-- surroundings before and after, `steps` the steps at its host, which starts engines, `status` its exit status. What
-- happens to the error output is said only for a match
abbrev pub Does : Result Plan WordsFault → Surroundings → Surroundings → List HostStep → ℕ → Type 0
-- a session ran, with the tags of a game of which nothing is known and at most 20,000 half-moves. Or nothing was read
-- or written, as when memory ran out
Does (Ok Session) s s' steps status = (steps ≡ []) × (Serves session_response (opened_session default_tags MOST_MOVES)
    s.devices s'.devices status ⊎ ((s'.devices ≡ s.devices) × (status ≡ 1)))
-- the input's games were verified as `options` say, with `--keep-going` piece by piece, otherwise as one text, up to
-- its first fault
Does (Ok (Verify keep_going options)) s s' steps status = (steps ≡ [])
    × ((result : Result Verified VerifyFault) × (status ≡ verify_status result)
    × Ran ((cond keep_going VerifiesCollection Verifies) options result) s.devices s'.devices)
-- a stub that plays these arguments answered the input's lines
Does (Ok (Stub arguments)) s s' steps status =
    (steps ≡ []) × Serves stub_response (waiting arguments.items) s.devices s'.devices status
-- the games of a match were played, written and logged (`PlaysGamesWith`); then a fault, if any, was reported on the
-- error output, whose state before that is `logged`
Does (Ok (Match plan)) s s' steps status = (s'.devices.input ≡ s.devices.input)
    × ((result : Result (Unit {0}) GamesFault) × (logged : LogSeen) × PlaysGamesWith plan result steps
    (record { output = s.devices.output; log = s.errors }) (record { output = s'.devices.output; log = logged })
    × (status ≡ status_of result) × Reports (report_of result) logged s'.errors)
-- nothing was read
Does (Err fault) s s' steps status = (steps ≡ [])
    × (s'.devices.input ≡ s.devices.input) × ReportsArguments fault s.devices.output s'.devices.output status

-- the program ran with these arguments: there is a right reading of them (`IsReading`), a plan or a fault, and the
-- program did what `Does` says of it
abbrev pub RanProgram : List Text → Surroundings → Surroundings → List HostStep → ℕ → Type 0
RanProgram arguments s s' steps status =
    (read : Result Plan WordsFault) × IsReading arguments read × Does read s s' steps status
