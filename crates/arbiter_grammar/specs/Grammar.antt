-- The grammar of the command line, in the terms of `clap`, the parser of arguments.
use Rattle.std.specs.Prelude.{◌≡◌, ◌⊎◌, ◌++◌, ℕ, List, codes, fold, [], ◌∷◌, Some, Result, Ok, Err, is_some, map, true}
use Rattle.std.specs.Borrow.{Bor}
use Rattle.clap.specs.Words.{App, HasKind, Row, Rule, Text, fault_of, first_of, new_app, new_rule, subcommand_of, subcommand_rows_of, with_rule, with_subcommand}
use Rattle.clap.specs.ValueTests.{is_unsigned_in}
use Rattle.clap.specs.declared.error.Error.{Error}
use Rattle.clap.specs.declared.parser.matches.ArgMatches.{ArgMatches}
use Rattle.clap.specs.declared.builder.value_parser.ValueParser.{ValueParser}
use Rattle.clap.specs.declared.builder.value_parser.ValueParser.TheVariants.{Names, Unsigned}
use Rattle.clap.specs.declared.builder.action.ArgAction.TheVariants.{Append, SetTrue}

-- the option `--NAME TEXT`: `long` is its name after `--`, and by `value_names` one value follows
abbrev pub option_rule : Text → Rule
option_rule name = record (new_rule name) { long = Some name; value_names = 1 }

-- the option `--NAME TEXT`, with a TEXT that `parser` accepts
abbrev pub checked_rule : Text → ValueParser → Rule
checked_rule name parser = record (option_rule name) { parser = Some parser }

-- the option `--NAME`, without a text; its value is `true` if it is given
abbrev pub flag_rule : Text → Rule
flag_rule name = record (new_rule name) { long = Some name; action = Some SetTrue }

-- the values that `--variant` and `--draws` accept, as references, wherever they are in memory
pub record OptionNames : Type 0 where
  pub variants : Bor (List (Bor Text))
  pub draws : Bor (List (Bor Text))
  pub variants_are : map (λ n. n.now) variants.now ≡ codes "normal" ∷ codes "fischerandom" ∷ []
  pub draws_are : map (λ n. n.now) draws.now ≡ codes "claimed" ∷ codes "automatic" ∷ []

-- the subcommand `match`. `Unsigned a b` accepts the numbers from a to b, both included; `Names` only these names
abbrev pub match_app : OptionNames → App
match_app names = fold with_rule (new_app (codes "match")) (
    record (option_rule (codes "white")) { required = true } ∷ record (option_rule (codes "black")) { required = true }
    ∷ option_rule (codes "level") ∷ option_rule (codes "white-level") ∷ option_rule (codes "black-level")
    ∷ option_rule (codes "fen") ∷ checked_rule (codes "games") (Unsigned 1 1000) ∷ option_rule (codes "date")
    ∷ checked_rule (codes "variant") (Names names.variants) ∷ checked_rule (codes "draws") (Names names.draws)
    ∷ flag_rule (codes "log") ∷ flag_rule (codes "flag") ∷ checked_rule (codes "reply-timeout") (Unsigned 1 999) ∷ [])

-- the subcommand `verify`
abbrev pub verify_app : App
verify_app = fold with_rule (new_app (codes "verify"))
    (map flag_rule (codes "keep-going" ∷ codes "quiet" ∷ codes "strict" ∷ codes "explain" ∷ codes "spans"
    ∷ codes "names" ∷ codes "variations" ∷ []) ++ option_rule (codes "ignore") ∷ [])

-- the subcommand `stub`, with any number of positional arguments, named `words` in `clap`
abbrev pub stub_app : App
stub_app =
    with_rule (new_app (codes "stub")) (record (new_rule (codes "words")) { action = Some Append; value_names = 1 })

-- the whole grammar: `arbiter` with its subcommands and `--version`, but no subcommand `help`. Its arguments don't
-- begin with the program's name. `top` is `clap`'s name for what an app is apart from its subcommands
abbrev pub arbiter_app : OptionNames → App
arbiter_app names = let a = new_app (codes "arbiter") in fold with_subcommand
    (record a { top = record a.top { has_version = true; no_binary_name = true; disable_help_subcommand = true } })
    ((new_app (codes "session")).top ∷ verify_app.top ∷ stub_app.top ∷ (match_app names).top ∷ [])

-- the result of parsing the arguments `words` is right: their subcommand and options, if they have no fault; otherwise
-- an error of a kind of fault that they have
abbrev pub IsParsedBy : OptionNames → List Text → Result ArgMatches Error → Type 0
IsParsedBy names words (Ok m) = (fault_of (arbiter_app names) words ≡ [])
    × (subcommand_rows_of m ≡ subcommand_of (arbiter_app names) words)
IsParsedBy names words (Err e) = HasKind (fault_of (arbiter_app names) words) e

-- the result of parsing these arguments is right by the grammar, wherever in memory its `names` are
abbrev pub IsParsed : List Text → Result ArgMatches Error → Type 0
IsParsed words result = (names : OptionNames) × IsParsedBy names words result

-- the text is the name of a subcommand
abbrev pub IsCommand : Text → Type 0
IsCommand name = (name ≡ codes "session") ⊎ (name ≡ codes "verify") ⊎ (name ≡ codes "stub") ⊎ (name ≡ codes "match")

-- of `match` both `--white` and `--black` were given; `p` is the subcommand's name and its options as matched
abbrev pub NamesBoth : Text × List Row → Type 0
NamesBoth p = p.0 ≡ codes "match" → (is_some (first_of (codes "white") p.1) ≡ true)
    × (is_some (first_of (codes "black") p.1) ≡ true)

-- this option's value, if given, is a number from 1 to `most`; `rows` are the options as matched
abbrev pub HasNumber : Text → ℕ → List Row → Type 0
HasNumber name most rows = (t : Text) → first_of name rows ≡ Some t → is_unsigned_in 1 most t ≡ true

-- the numbers of games and of seconds, if given, are in range; `rows` are the options as matched
abbrev pub HasNumbers : List Row → Type 0
HasNumbers rows = HasNumber (codes "games") 1000 rows × HasNumber (codes "reply-timeout") 999 rows

-- `p`, the name and the options of a subcommand as matched, has all that it needs
abbrev pub IsComplete : Text × List Row → Type 0
IsComplete p = NamesBoth p × IsCommand p.0 × HasNumbers p.1
