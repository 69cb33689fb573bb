-- What the program does without arguments, with `session` and with `verify`: a session, or it verifies games
-- (serves_session, verifies_games). Reading such arguments gives the plan of this subcommand, or fails as memory ran
-- out; then the program ends as a session or `verify` without memory does.
use Rattle.std.proofs.Common.{◌≡◌, ◌∙◌, ◌<◌, ℕ, Bool, List, [], ◌∷◌, bytes_eq, length, lit<, codes, Result, Ok, Err, refl, sym, ap, subst, inr, false, arith, true≢false}
use Rattle.std.specs.List.{list_all, list_any}
use Rattle.clap.specs.Words.{IsAmong, Text, kind_of}
use Rattle.arbiter_cli.specs.{Plans.IsReading, Plans.said_by, declared.fault.WordsFault.WordsFault, declared.plan.Plan.Plan}
use Rattle.arbiter_laws.specs.Arguments.{AskFor, PlansAreNamed, VerifyAsBare, VerifyIsAsAsked, bare_options, bare_plan, command_name}
use Rattle.arbiter_laws.specs.{PlainArguments.PlainArgumentsAreRead, Programs.PlainArgumentsAreFollowed, Programs.ServesSession, Programs.VerifiesGames}
use Rattle.arbiter_cli.specs.declared.fault.WordsFault.TheVariants as faults
use Rattle.arbiter_cli.specs.declared.plan.Plan.TheVariants.{Session, Verify, Stub, Match}
use Rattle.byte_devices.specs.Devices.{InputState}
use Rattle.byte_devices.specs.Transfers.{Devices, InputGave, Ran, nothing}
use Rattle.byte_devices.proofs.{shared.Transfers.came, shared.Transfers.took_nothing, shared.Devices.consumes_none}
use Rattle.chess_arbiter.specs.Program.{Does, Surroundings}
use Rattle.match_runner.specs.GamesTable.{HostStep}
use Rattle.verify_options.specs.declared.options.VerifyOptions.{VerifyOptions}
use Rattle.pgn_verifier.specs.Verify.{Verifies}
use Rattle.pgn_verifier.specs.declared.fault.VerifyFault.TheVariants as verifying

-- a text that is shorter than another one is not equal to it
pub shorter : (xs ys : Text) → length xs < length ys → xs ≡ ys → ⊥
shorter xs ys lt e = let same : length xs ≡ length ys = ap length e in absurd (omega arith)

-- the program does what reading its arguments gave, and plain arguments are read as what they say; so it does that
pub as_followed : PlainArgumentsAreRead → PlainArgumentsAreFollowed
as_followed law line s s' steps status plain (read, is, ran) = (read, law line read plain is, ran)

-- arguments that ask for the subcommand `name` are read as a plan of this subcommand
read_argument : PlansAreNamed → (arguments : List Text) (name : Text) (plan : Plan) → AskFor arguments name
    → IsReading arguments (Ok plan) → name ≡ command_name plan
read_argument named arguments name plan a (names, (none, is)) = sym (a.named names)
    ∙ named (said_by names arguments) plan is

-- the text names a kind that `verify` may ignore
abbrev pub is_listed : Text → Bool
is_listed name =
    list_any (bytes_eq name) (codes "variant" ∷ codes "result" ∷ codes "board" ∷ codes "after-end" ∷ [])

-- the fault is that memory ran out
abbrev IsWant : WordsFault → Type 0
IsWant faults.NoMemory = Unit {0}
IsWant _ = ⊥

-- reading arguments that `clap` takes, and that ask for another subcommand than `match` without `--ignore`, can fail
-- only as memory ran out
refused_argument : (arguments : List Text) (name : Text) (fault : WordsFault) → AskFor arguments name
    → (name ≡ codes "match" → ⊥) → IsReading arguments (Err fault) → IsWant fault
refused_argument ws name (faults.Words e) a other (names, among) =
    absurd (subst (IsAmong (kind_of e)) (a.taken names) among)
refused_argument ws name faults.NoMemory a other is = tt
refused_argument ws name (faults.BadLevel f) a other (names, (none, named, h)) =
    absurd (other (sym (a.named names) ∙ named))
refused_argument ws name (faults.BadFen f) a other (names, (none, named, h)) =
    absurd (other (sym (a.named names) ∙ named))
refused_argument ws name faults.BadDate a other (names, (none, named, h)) =
    absurd (other (sym (a.named names) ∙ named))
-- no kind is ignored, so none is wrong
refused_argument ws name faults.BadKind a other (names, (none, named, h)) =
    absurd (true≢false (sym (ap (list_all is_listed) (a.ignores names)) ∙ h))

no_match_by_session : codes "session" ≡ codes "match" → ⊥
no_match_by_session e = shorter (codes "match") (codes "session") (lit< tt) (sym e)

no_match_by_verify : codes "verify" ≡ codes "match" → ⊥
no_match_by_verify e = shorter (codes "match") (codes "verify") (lit< tt) (sym e)

-- devices are the same if their inputs and their outputs are
pub both_same : (d d' : Devices) → d'.input ≡ d.input → d'.output ≡ d.output → d' ≡ d
both_same d d' same kept = ap (λ v. record { input = v; output = d'.output }) same
    ∙ ap (λ v. record { input = d.input; output = v }) kept

-- nothing was read from an input that is as before
nothing_read : (r : InputState) → InputGave r r (came r [] false false)
nothing_read r = record {
  bytes = consumes_none r.known_bytes;
  early = refl;
  at_end = λ e. absurd (cc);
  ends = refl;
  failures = refl;
  silences = refl;
}

-- memory ran out before anything was read
not_begun : (options : VerifyOptions) (d d' : Devices) → d'.input ≡ d.input → d'.output ≡ d.output
    → Ran (Verifies options (Err verifying.NoMemory)) d d'
not_begun options d d' same kept =
    let here : Ran (Verifies options (Err verifying.NoMemory)) d d = (
      came d.input [] false false,
      nothing,
      nothing_read d.input,
      took_nothing d.output,
      (refl, (refl, (λ e. absurd (cc)), refl)),
    ) in
    subst (λ (v : Devices). Ran (Verifies options (Err verifying.NoMemory)) d v) (sym (both_same d d' same kept)) here

-- a program that ends as memory ran out does what the plan of a session allows
session_or_want : (fault : WordsFault) (s s' : Surroundings) (steps : List HostStep) (status : ℕ)
    → IsWant fault → Does (Err fault) s s' steps status → Does (Ok Session) s s' steps status
session_or_want faults.NoMemory s s' steps status want (none, same, (kept, is)) =
    (none, inr (both_same s.devices s'.devices same kept, is))
session_or_want (faults.Words e) s s' steps status want ran = absurd want
session_or_want (faults.BadLevel f) s s' steps status want ran = absurd want
session_or_want (faults.BadFen f) s s' steps status want ran = absurd want
session_or_want faults.BadDate s s' steps status want ran = absurd want
session_or_want faults.BadKind s s' steps status want ran = absurd want

-- the same for the plan of `verify` without flags
verify_or_want : (fault : WordsFault) (s s' : Surroundings) (steps : List HostStep) (status : ℕ)
    → IsWant fault → Does (Err fault) s s' steps status → Does (Ok bare_plan) s s' steps status
verify_or_want faults.NoMemory s s' steps status want (none, same, (kept, is)) =
    (none, (Err verifying.NoMemory, is, not_begun bare_options s.devices s'.devices same kept))
verify_or_want (faults.Words e) s s' steps status want ran = absurd want
verify_or_want (faults.BadLevel f) s s' steps status want ran = absurd want
verify_or_want (faults.BadFen f) s s' steps status want ran = absurd want
verify_or_want faults.BadDate s s' steps status want ran = absurd want
verify_or_want faults.BadKind s s' steps status want ran = absurd want

-- whatever was read of arguments that ask for a session, what the program does is what a session does: other plans have
-- another name
serves : PlansAreNamed → (arguments : List Text) → AskFor arguments (codes "session") → (read : Result Plan WordsFault)
    → IsReading arguments read
    → (s s' : Surroundings) (steps : List HostStep) (status : ℕ) → Does read s s' steps status
    → Does (Ok Session) s s' steps status
serves named ws a (Ok Session) is s s' steps status ran = ran
serves named ws a (Ok (Verify keep_going options)) is s s' steps status ran =
    absurd (shorter (codes "verify") (codes "session") (lit< tt)
    (sym (read_argument named ws (codes "session") (Verify keep_going options) a is)))
serves named ws a (Ok (Stub replies)) is s s' steps status ran =
    absurd (shorter (codes "stub") (codes "session") (lit< tt)
    (sym (read_argument named ws (codes "session") (Stub replies) a is)))
serves named ws a (Ok (Match m)) is s s' steps status ran =
    absurd (no_match_by_session (read_argument named ws (codes "session") (Match m) a is))
serves named ws a (Err fault) is s s' steps status ran =
    session_or_want fault s s' steps status (refused_argument ws (codes "session") fault a no_match_by_session is)
    ran

-- `verify` alone sets none of its flags
without_flags : VerifyIsAsAsked → (arguments : List Text) (keep_going : Bool) (options : VerifyOptions)
    → VerifyAsBare arguments → IsReading arguments (Ok (Verify keep_going options))
    → Verify keep_going options ≡ bare_plan
without_flags denoted ws keep_going options bare (names, (none, is)) =
    denoted (said_by names ws) keep_going options is ∙ bare names

-- the same for `verify` without flags
verifies : PlansAreNamed → VerifyIsAsAsked → (arguments : List Text) → AskFor arguments (codes "verify")
    → VerifyAsBare arguments → (read : Result Plan WordsFault) → IsReading arguments read
    → (s s' : Surroundings) (steps : List HostStep) (status : ℕ) → Does read s s' steps status
    → Does (Ok bare_plan) s s' steps status
verifies named denoted ws a bare (Ok Session) is s s' steps status ran =
    absurd (shorter (codes "verify") (codes "session") (lit< tt) (read_argument named ws (codes "verify") Session a is))
verifies named denoted ws a bare (Ok (Verify keep_going options)) is s s' steps status ran =
    subst (λ (plan : Plan). Does (Ok plan) s s' steps status) (without_flags denoted ws keep_going options bare is) ran
verifies named denoted ws a bare (Ok (Stub replies)) is s s' steps status ran =
    absurd (shorter (codes "stub") (codes "verify") (lit< tt)
    (sym (read_argument named ws (codes "verify") (Stub replies) a is)))
verifies named denoted ws a bare (Ok (Match m)) is s s' steps status ran =
    absurd (no_match_by_verify (read_argument named ws (codes "verify") (Match m) a is))
verifies named denoted ws a bare (Err fault) is s s' steps status ran =
    verify_or_want fault s s' steps status (refused_argument ws (codes "verify") fault a no_match_by_verify is) ran

pub serves_session : PlansAreNamed → (arguments : List Text) → AskFor arguments (codes "session")
    → ServesSession arguments
serves_session named ws a s s' steps status (read, is, ran) = serves named ws a read is s s' steps status ran

pub verifies_games : PlansAreNamed → VerifyIsAsAsked → (arguments : List Text) → AskFor arguments (codes "verify")
    → VerifyAsBare arguments → VerifiesGames arguments
verifies_games named denoted ws a bare s s' steps status (read, is, ran) =
    verifies named denoted ws a bare read is s s' steps status ran
