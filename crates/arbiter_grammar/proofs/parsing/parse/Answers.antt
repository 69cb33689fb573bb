-- Of a grammar as simple as this one `clap` promises what it finds, and which faults it reports (parsed_by). Where
-- there was no memory for the grammar, any names will do (without_grammar).
use Rattle.std.proofs.Common.{rules, IsErr, ◌≡◌, ◌∙◌, ap, map, [], ◌∷◌, codes, IfOk, IfErr, IfSome, List, Option, Result, Ok, Err, Bor, inl, refl, subst, true, sym}
use Rattle.clap.specs.Words.{App, FailsBy, HasKind, HasMatchesOf, Row, Text, fault_of, is_simple, is_simple_and_free, kind_of, subcommand_of, subcommand_rows_of}
use Rattle.clap.specs.{declared.error.Error.Error, declared.error.kind.ErrorKind.TheVariants.OutOfMemory, declared.parser.matches.ArgMatches.ArgMatches}
use Rattle.arbiter_grammar.specs.Grammar.{IsComplete, IsParsed, IsParsedBy, OptionNames, arbiter_app}
use Rattle.arbiter_grammar.proofs.Required.{required_there}
use Rattle.arbiter_grammar.proofs.parsing.parse.Goals as goal

-- the grammar uses only plain flags, options and positionals, and no rule on another argument; so what `clap` promises
-- of such grammars holds
simple : (names : OptionNames) → is_simple (arbiter_app names) ≡ true
simple names = refl

free : (names : OptionNames) → is_simple_and_free (arbiter_app names) ≡ true
free names = refl

-- a reference to a text, somewhere in memory
abbrev lent : Text → Bor Text
lent t = record { ref_ptr = (0, 0); now = t }

-- any names, for where there was no memory for a grammar
abbrev some_names : OptionNames
some_names = record {
  variants = record { ref_ptr = (0, 0); now = lent (codes "normal") ∷ lent (codes "fischerandom") ∷ [] };
  draws = record { ref_ptr = (0, 0); now = lent (codes "claimed") ∷ lent (codes "automatic") ∷ [] };
  variants_are = refl;
  draws_are = refl;
}

-- the result of a parse by the grammar: without a fault, and with the matches of the definitions; or an error of a kind
-- that the definitions list
parsed_by : (names : OptionNames) (a : App) (words : List Text) → a ≡ arbiter_app names → (r : Result ArgMatches Error)
    → IfOk r (HasMatchesOf a words) → (is_simple_and_free a ≡ true → FailsBy (fault_of a words) r)
    → IsParsedBy names words r
parsed_by names a words e (Ok m) h k = (
  sym (ap (λ (b : App). fault_of b words) e) ∙ k (ap is_simple_and_free e ∙ free names),
  (h (ap is_simple e ∙ simple names)).1 ∙ ap (λ (b : App). subcommand_of b words) e,
)
parsed_by names a words e (Err x) h k =
    subst (λ (b : App). HasKind (fault_of b words) x) e (k (ap is_simple_and_free e ∙ free names))

-- there was no memory for a grammar
without_grammar : (words : List Text) (r : Result ArgMatches Error) → IsErr r → IfErr r (λ e. kind_of e ≡ OutOfMemory)
    → IsParsed words r
without_grammar words (Ok m) is none = cc
without_grammar words (Err e) is none = (some_names, inl none)

-- what was parsed is complete
complete_by : (names : OptionNames) (words : List Text) (r : Result ArgMatches Error) → IsParsedBy names words r
    → IfOk r (λ m. IfSome (subcommand_rows_of m) IsComplete)
complete_by names words (Ok m) p = subst (λ (o : Option (Text × List Row)). IfSome o IsComplete) (sym p.1)
    (required_there names words p.0)
complete_by names words (Err e) p = tt

-- an error has no matches that could be incomplete
nothing_complete : (r : Result ArgMatches Error) → IsErr r → IfOk r (λ m. IfSome (subcommand_rows_of m) IsComplete)
nothing_complete (Ok m) is = cc
nothing_complete (Err e) is = tt

pub returns-in_err-arbiter_command-clause-parsed : goal.returns-in_err-arbiter_command-clause-parsed
returns-in_err-arbiter_command-clause-parsed c =
    let is : IsErr c.from_residual.result = search rules in
    let none : IfErr c.from_residual.result (λ e. kind_of e ≡ OutOfMemory) = search rules in
    without_grammar (map (λ a. a.now) c.args.arguments.now) c.from_residual.result is none

pub returns-clause-parsed : goal.returns-clause-parsed
returns-clause-parsed c =
    let given = c.in_ok-arbiter_command.ensures in
    let m = c.try_get_matches_from.ensures in (
      given.0,
      parsed_by given.0 _ (map (λ a. a.now) c.args.arguments.now) given.1 c.try_get_matches_from.result
          m.matches m.kinds,
    )

pub returns-in_err-arbiter_command-clause-complete : goal.returns-in_err-arbiter_command-clause-complete
returns-in_err-arbiter_command-clause-complete c =
    let is : IsErr c.from_residual.result = search rules in
    nothing_complete c.from_residual.result is

pub returns-clause-complete : goal.returns-clause-complete
returns-clause-complete c =
    let given = c.in_ok-arbiter_command.ensures in
    let m = c.try_get_matches_from.ensures in
    let words = map (λ a. a.now) c.args.arguments.now in
    complete_by given.0 words c.try_get_matches_from.result
    (parsed_by given.0 _ words given.1 c.try_get_matches_from.result m.matches m.kinds)
