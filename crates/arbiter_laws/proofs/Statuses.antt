-- The exit status of the program for each fault of its arguments and each result of its commands, read off the
-- definition of what the program does (`Does`), case by case.
use Rattle.std.proofs.Common.{◌≡◌, ◌≢◌, ℕ, inl, inr, refl}
use Rattle.clap.specs.Words.{kind_of}
use Rattle.clap.specs.{declared.error.Error.Error, declared.error.kind.ErrorKind.TheVariants.DisplayHelp, declared.error.kind.ErrorKind.TheVariants.DisplayVersion}
use Rattle.arbiter_cli.specs.declared.fault.WordsFault.TheVariants as faults
use Rattle.byte_devices.specs.Devices.{OutputState}
use Rattle.cecp_engine.specs.declared.level_fault.LevelFault.{LevelFault}
use Rattle.chess_base.specs.declared.fen_fault.FenFault.{FenFault}
use Rattle.chess_arbiter.specs.Program.{ReportsArguments}
use Rattle.arbiter_laws.specs.Statuses.{HasStatus, StatusesAreStated}
use Rattle.arbiter_laws.proofs.RefusedArguments.{no_help_asked}

-- `clap` refused the arguments, and asked for no text: the status is 2
refused_by_clap : (e : Error) (w w' : OutputState) (status : ℕ) → kind_of e ≢ DisplayHelp → kind_of e ≢ DisplayVersion
    → ReportsArguments (faults.Words e) w w' status → status ≡ 2
refused_by_clap e w w' status help version (inl (asked, writes)) = no_help_asked (kind_of e) asked help version
refused_by_clap e w w' status help version (inr (no_help, no_version, same, is)) = is

of_words : (e : Error) → kind_of e ≢ DisplayHelp → kind_of e ≢ DisplayVersion → HasStatus 2 (faults.Words e)
of_words e help version s s' steps status (none, same, reported) =
    refused_by_clap e s.devices.output s'.devices.output status help version reported

of_level : (fault : LevelFault) → HasStatus 2 (faults.BadLevel fault)
of_level fault s s' steps status (none, same, (kept, is)) = is

of_fen : (fault : FenFault) → HasStatus 2 (faults.BadFen fault)
of_fen fault s s' steps status (none, same, (kept, is)) = is

of_date : HasStatus 2 faults.BadDate
of_date s s' steps status (none, same, (kept, is)) = is

of_kind : HasStatus 2 faults.BadKind
of_kind s s' steps status (none, same, (kept, is)) = is

of_memory : HasStatus 1 faults.NoMemory
of_memory s s' steps status (none, same, (kept, is)) = is

pub statuses_are_stated : StatusesAreStated
statuses_are_stated = record {
  words = of_words;
  level = of_level;
  fen = of_fen;
  date = of_date;
  kind = of_kind;
  no_text = refl;
  memory = of_memory;
  faulty = refl;
  faultless = refl;
  unverified = λ fault. refl;
  served = λ end. refl;
  unserved = λ fault. refl;
  played = λ done. refl;
  unplayed = λ fault. refl;
  unread = refl;
  unwritten = refl;
  no_memory = refl;
}
