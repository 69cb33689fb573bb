-- The exit statuses of the program.
use Rattle.std.specs.Prelude.{◌≡◌, ◌≢◌, ℕ, List, Ok, Err}
use Rattle.clap.specs.Words.{kind_of}
use Rattle.clap.specs.declared.error.Error.{Error}
use Rattle.clap.specs.declared.error.kind.ErrorKind.TheVariants.{DisplayHelp, DisplayVersion}
use Rattle.arbiter_cli.specs.declared.fault.WordsFault.{WordsFault}
use Rattle.arbiter_cli.specs.declared.fault.WordsFault.TheVariants as faults
use Rattle.cecp_engine.specs.declared.level_fault.LevelFault.{LevelFault}
use Rattle.chess_base.specs.declared.fen_fault.FenFault.{FenFault}
use Rattle.chess_arbiter.specs.Program.{Does, Surroundings, fault_status, status_of, verify_status}
use Rattle.chess_arbiter.specs.declared.fault.ProgramFault.TheVariants.{InvalidArguments, NoMemory, ReadFailed, WriteFailed}
use Rattle.chess_cecp.specs.declared.run.End.{End}
use Rattle.chess_cecp.specs.declared.run.Fault.{Fault}
use Rattle.match_runner.specs.GamesTable.{HostStep}
use Rattle.match_runner.specs.declared.fault.GamesFault.{GamesFault}
use Rattle.pgn_verifier.specs.declared.fault.VerifyFault.{VerifyFault}
use Rattle.pgn_verifier.specs.declared.tally.Verified.TheVariants.{EachGame, FaultReported}

-- whenever this fault is why there is no plan, the program's exit status is the expected one
abbrev pub HasStatus : ℕ → WordsFault → Type 0
HasStatus expected fault = (s s' : Surroundings) (steps : List HostStep) (status : ℕ)
    → Does (Err fault) s s' steps status → status ≡ expected

-- the exit status of each result and each fault
pub record StatusesAreStated : Type 0 where
  -- 2 for arguments that are refused: by `clap`, but for help and the version; for an invalid level, FEN, date or kind
  -- of fault; and for one that is no text
  pub words : (e : Error) → kind_of e ≢ DisplayHelp → kind_of e ≢ DisplayVersion → HasStatus 2 (faults.Words e)
  pub level : (fault : LevelFault) → HasStatus 2 (faults.BadLevel fault)
  pub fen : (fault : FenFault) → HasStatus 2 (faults.BadFen fault)
  pub date : HasStatus 2 faults.BadDate
  pub kind : HasStatus 2 faults.BadKind
  pub no_text : fault_status InvalidArguments ≡ 2
  -- 1 if memory runs out
  pub memory : HasStatus 1 faults.NoMemory
  -- of `verify`: 1 if a fault was reported, or if something failed, otherwise 0
  pub faulty : verify_status (Ok FaultReported) ≡ 1
  pub faultless : verify_status (Ok EachGame) ≡ 0
  pub unverified : (fault : VerifyFault) → verify_status (Err fault) ≡ 1
  -- of a session and of a stub: 1 if a read, a write or a flush failed, otherwise 0
  pub served : (end : End) → status_of {A = End} {E = Fault} (Ok end) ≡ 0
  pub unserved : (fault : Fault) → status_of {A = End} {E = Fault} (Err fault) ≡ 1
  -- of a match: 1 if it was not played to its end, otherwise 0
  pub played : (done : Unit {0}) → status_of {A = Unit {0}} {E = GamesFault} (Ok done) ≡ 0
  pub unplayed : (fault : GamesFault) → status_of {A = Unit {0}} {E = GamesFault} (Err fault) ≡ 1
  -- of the program's other faults
  pub unread : fault_status ReadFailed ≡ 1
  pub unwritten : fault_status WriteFailed ≡ 1
  pub no_memory : fault_status NoMemory ≡ 1
