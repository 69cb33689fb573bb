-- What arguments ask for, and which of them are refused.
use Rattle.std.specs.Prelude.{◌≡◌, Bool, List, [], codes, false, true}
use Rattle.std.specs.List.{list_any}
use Rattle.std.specs.Option.{option_map_or}
use Rattle.clap.specs.Words.{Kinds, Text, fault_of, subcommand_of}
use Rattle.clap.specs.Facts.{explicit_source}
use Rattle.arbiter_grammar.specs.Grammar.{OptionNames, arbiter_app}
use Rattle.arbiter_cli.specs.declared.plan.Plan.{Plan}
use Rattle.arbiter_cli.specs.declared.plan.Plan.TheVariants.{Session, Verify, Stub, Match}
use Rattle.arbiter_cli.specs.Plans.{IsPlanOf, Said, Values, ignored_in, is_set, said_by, verify_options_of}
use Rattle.verify_options.specs.declared.options.VerifyOptions.{VerifyOptions}

-- the name of the subcommand that asks for this plan
abbrev pub command_name : Plan → Text
command_name Session = codes "session"
command_name (Verify keep_going options) = codes "verify"
command_name (Stub arguments) = codes "stub"
command_name (Match plan) = codes "match"

-- each plan is asked for by the subcommand of its name
abbrev pub PlansAreNamed : Type 0
PlansAreNamed = (said : Said) (plan : Plan) → IsPlanOf said plan → said.command ≡ command_name plan

-- the plan of `verify` with these options
abbrev pub verify_plan_of : Values → Plan
verify_plan_of value = Verify (is_set (codes "keep-going") value) (verify_options_of value)

-- whenever arguments ask for verifying, the plan follows from the flags that were given and the value of `--ignore`, as
-- `verify_plan_of` says
abbrev pub VerifyIsAsAsked : Type 0
VerifyIsAsAsked = (said : Said) (keep_going : Bool) (options : VerifyOptions)
    → IsPlanOf said (Verify keep_going options) → Verify keep_going options ≡ verify_plan_of said.value

-- `clap` accepts these arguments, and they ask for the subcommand `name` with no options given
pub record AskFor (arguments : List Text) (name : Text) : Type 0 where
  pub taken : (names : OptionNames) → fault_of (arbiter_app names) arguments ≡ []
  pub named : (names : OptionNames) → (said_by names arguments).command ≡ name
  -- no option was given
  pub bare : (names : OptionNames) → option_map_or (λ p. list_any (λ r. explicit_source r.source) p.1)
      (subcommand_of (arbiter_app names) arguments) false ≡ false
  -- no kind of fault is to be ignored
  pub ignores : (names : OptionNames) → ignored_in (said_by names arguments).value ≡ []

-- `clap` refuses these arguments; `kinds` are the kinds of fault that it may report for them
abbrev pub AreRefused : List Text → Kinds → Type 0
AreRefused arguments kinds = (names : OptionNames) → fault_of (arbiter_app names) arguments ≡ kinds

-- what `verify` without options asks for
abbrev pub bare_options : VerifyOptions
bare_options = record {
  quiet = false;
  strict = record { draws_of_2014 = true; variations = false; variant = false; result = false; board = false };
  spans = false;
  names = false;
  explain = false;
}

-- the plan of `verify` without options
abbrev pub bare_plan : Plan
bare_plan = Verify false bare_options

-- the options of these arguments make the plan of `verify` without options
abbrev pub VerifyAsBare : List Text → Type 0
VerifyAsBare arguments = (names : OptionNames) → verify_plan_of (said_by names arguments).value ≡ bare_plan
