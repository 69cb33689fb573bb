-- What the program does if `clap` refuses its arguments with a fault of a single kind: for help or the version it
-- writes a text (shows_help), and for any other kind it writes nothing to its output and has the status 2
-- (refuses_arguments); in both cases memory may run out instead.
use Rattle.std.proofs.Common.{◌≡◌, ◌≢◌, ◌∙◌, ◌⊎◌, ℕ, List, [], ◌∷◌, Ok, Err, sym, subst, inl, inr}
use Rattle.clap.specs.Words.{IsAmong, Kinds, Text, kind_of}
use Rattle.clap.specs.{declared.error.kind.ErrorKind.ErrorKind, declared.error.kind.ErrorKind.TheVariants.DisplayHelp, declared.error.kind.ErrorKind.TheVariants.DisplayVersion}
use Rattle.arbiter_cli.specs.{Plans.IsReading, declared.fault.WordsFault.WordsFault, declared.plan.Plan.Plan}
use Rattle.arbiter_laws.specs.{Arguments.AreRefused, Programs.RefusesArguments, Programs.ShowsHelp}
use Rattle.arbiter_cli.specs.declared.fault.WordsFault.TheVariants as faults
use Rattle.byte_devices.specs.Devices.{OutputState}
use Rattle.chess_arbiter.specs.Program.{WritesHelp, ReportsArguments}
use Rattle.arbiter_laws.proofs.PlainArguments.{both_same}

-- the faults of arguments can't be none and one
no_fault : (k : ErrorKind) (kinds : Kinds) → kinds ≡ [] → kinds ≡ k ∷ [] → ⊥
no_fault k kinds none one = absurd (cc)

-- a kind among one kind is that kind
only_one : (k x : ErrorKind) → IsAmong x (k ∷ []) → x ≡ k
only_one k x (inl e) = e
only_one k x (inr none) = absurd none

the_fault : (k x : ErrorKind) (kinds : Kinds) → kinds ≡ k ∷ [] → IsAmong x kinds → x ≡ k
the_fault k x kinds one among = only_one k x (subst (IsAmong x) one among)

-- the fault of reading is `clap`'s, of the kind `k`, or that memory ran out
abbrev pub IsRefusal : ErrorKind → WordsFault → Type 0
IsRefusal k (faults.Words e) = kind_of e ≡ k
IsRefusal k faults.NoMemory = Unit {0}
IsRefusal k _ = ⊥

-- reading such arguments fails in one of these ways, and gives no plan (no_plan)
refusal : (ws : List Text) (k : ErrorKind) (fault : WordsFault) → AreRefused ws (k ∷ []) → IsReading ws (Err fault)
    → IsRefusal k fault
refusal ws k (faults.Words e) one (names, among) = the_fault k (kind_of e) _ (one names) among
refusal ws k faults.NoMemory one is = tt
refusal ws k (faults.BadLevel f) one (names, (none, named, h)) = absurd (no_fault k _ none (one names))
refusal ws k (faults.BadFen f) one (names, (none, named, h)) = absurd (no_fault k _ none (one names))
refusal ws k faults.BadDate one (names, (none, named, h)) = absurd (no_fault k _ none (one names))
refusal ws k faults.BadKind one (names, (none, named, h)) = absurd (no_fault k _ none (one names))

no_plan : (ws : List Text) (k : ErrorKind) (plan : Plan) → AreRefused ws (k ∷ []) → IsReading ws (Ok plan) → ⊥
no_plan ws k plan one (names, (none, is)) = no_fault k _ none (one names)

-- ---- help and the version

-- a kind that is that of help or of the version is none of the others
is_shown : (k x : ErrorKind) → (k ≡ DisplayHelp) ⊎ (k ≡ DisplayVersion) → x ≡ k → x ≢ DisplayHelp → x ≢ DisplayVersion
    → ⊥
is_shown k x (inl help) is no_help no_version = no_help (is ∙ help)
is_shown k x (inr version) is no_help no_version = no_version (is ∙ version)

-- what is reported is then the text that was asked for
shown : (k : ErrorKind) (fault : WordsFault) (w w' : OutputState) (status : ℕ)
    → (k ≡ DisplayHelp) ⊎ (k ≡ DisplayVersion) → IsRefusal k fault → ReportsArguments fault w w' status
    → WritesHelp w w' status
shown k (faults.Words e) w w' status help is (inl (asked, writes)) = writes
shown k (faults.Words e) w w' status help is (inr (no_help, no_version, same, ends)) =
    absurd (is_shown k (kind_of e) help is no_help no_version)
shown k faults.NoMemory w w' status help is (same, ends) = inr (ends, inl same)
shown k (faults.BadLevel f) w w' status help is reported = absurd is
shown k (faults.BadFen f) w w' status help is reported = absurd is
shown k faults.BadDate w w' status help is reported = absurd is
shown k faults.BadKind w w' status help is reported = absurd is

-- so `--help` and `--version` write a text
pub shows_help : (ws : List Text) (k : ErrorKind) → (k ≡ DisplayHelp) ⊎ (k ≡ DisplayVersion) → AreRefused ws (k ∷ [])
    → ShowsHelp ws
shows_help ws k help one s s' steps status (Ok plan, is, ran) = absurd (no_plan ws k plan one is)
shows_help ws k help one s s' steps status (Err fault, is, (none, same, reported)) = (
  none,
  same,
  shown k fault s.devices.output s'.devices.output status help (refusal ws k fault one is) reported,
)

-- ---- other kinds

-- a fault can't both ask for a text and be of another kind
pub no_help_asked : {A : Type 0} (x : ErrorKind) → (x ≡ DisplayHelp) ⊎ (x ≡ DisplayVersion) → x ≢ DisplayHelp
    → x ≢ DisplayVersion → A
no_help_asked x (inl asked) help version = absurd (help asked)
no_help_asked x (inr asked) help version = absurd (version asked)

-- for a fault of another kind nothing is written, and the status is 2, or 1 as memory ran out
refused : (k : ErrorKind) (fault : WordsFault) (w w' : OutputState) (status : ℕ) → k ≢ DisplayHelp → k ≢ DisplayVersion
    → IsRefusal k fault → ReportsArguments fault w w' status → (w' ≡ w) × ((status ≡ 2) ⊎ (status ≡ 1))
refused k (faults.Words e) w w' status help version is (inl (asked, writes)) =
    no_help_asked (kind_of e) asked (λ x. help (sym is ∙ x)) (λ x. version (sym is ∙ x))
refused k (faults.Words e) w w' status help version is (inr (no_help, no_version, same, ends)) = (same, inl ends)
refused k faults.NoMemory w w' status help version is (same, ends) = (same, inr ends)
refused k (faults.BadLevel f) w w' status help version is reported = absurd is
refused k (faults.BadFen f) w w' status help version is reported = absurd is
refused k faults.BadDate w w' status help version is reported = absurd is
refused k faults.BadKind w w' status help version is reported = absurd is

-- so arguments that `clap` refuses with such a kind write nothing and have this status
pub refuses_arguments : (ws : List Text) (k : ErrorKind) → k ≢ DisplayHelp → k ≢ DisplayVersion → AreRefused ws (k ∷ [])
    → RefusesArguments ws
refuses_arguments ws k help version one s s' steps status (Ok plan, is, ran) = absurd (no_plan ws k plan one is)
refuses_arguments ws k help version one s s' steps status (Err fault, is, (none, same, reported)) =
    let t = refused k fault s.devices.output s'.devices.output status help version (refusal ws k fault one is)
    reported in
    (none, both_same s.devices s'.devices same t.0, t.1)
