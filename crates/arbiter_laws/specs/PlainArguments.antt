-- Plain arguments, and what they say, without the grammar: a subcommand and then its options, in any order and each at
-- most once. A value is an argument of its own and begins with no hyphen.
use Rattle.std.specs.Prelude.{◌≡◌, ◌≢◌, ◌≤◌, ◌==◌, ◌⊎◌, ℕ, Bool, false, List, [], ◌∷◌, ◌++◌, codes, None, find, flat_map, option_map, AllPairs, IsSome, Result, ⊤}
use Rattle.std.specs.List.{AllByRecursion}
use Rattle.std.specs.Str.{bytes_eq}
use Rattle.std.specs.Str.Parse.{IsNumeral, digits_value, without_leading_plus}
use Rattle.clap.specs.Words.{Text}
use Rattle.arbiter_cli.specs.Plans.{IsReadAs, IsReading, Said, Values}
use Rattle.arbiter_cli.specs.declared.plan.Plan.{Plan}
use Rattle.arbiter_cli.specs.declared.fault.WordsFault.{WordsFault}

-- an option as it was given: its name with a value, or the name of a flag
pub data Given : Type 0 where
  valued : Text → Text → Given
  flag : Text → Given

-- the name of an option, without its two hyphens
abbrev pub name_of : Given → Text
name_of (valued name value) = name
name_of (flag name) = name

-- the value that an option was given; that of a flag is `true`
abbrev pub value_of : Given → Text
value_of (valued name value) = value
value_of (flag name) = codes "true"

-- the arguments that give an option, such as `--games 10` or `--quiet`
abbrev pub written : Given → List Text
written (valued name value) = (codes "--" ++ name) ∷ value ∷ []
written (flag name) = (codes "--" ++ name) ∷ []

-- for each name, the value that the first of these options with this name was given; `None` if there is none
abbrev pub values_in : List Given → Values
values_in options = λ name. option_map value_of (find (λ g. bytes_eq (name_of g) name) options)

-- a command line: no arguments; `session`; `verify` or `match` with options; or `stub` with what it plays
pub data CommandLine : Type 0 where
  empty : CommandLine
  session : CommandLine
  verify : List Given → CommandLine
  stub : List Text → CommandLine
  match : List Given → CommandLine

-- the arguments of a command line
abbrev pub arguments_of : CommandLine → List Text
arguments_of empty = []
arguments_of session = codes "session" ∷ []
arguments_of (verify options) = codes "verify" ∷ flat_map written options
arguments_of (stub replies) = codes "stub" ∷ replies
arguments_of (match options) = codes "match" ∷ flat_map written options

-- what a command line says; an empty one says the same as `session`
abbrev pub said_in : CommandLine → Said
said_in empty = record { command = codes "session"; value = λ name. None; replies = [] }
said_in session = record { command = codes "session"; value = λ name. None; replies = [] }
said_in (verify options) = record { command = codes "verify"; value = values_in options; replies = [] }
said_in (stub replies) = record { command = codes "stub"; value = λ name. None; replies = replies }
said_in (match options) = record { command = codes "match"; value = values_in options; replies = [] }

-- whether the text begins with a hyphen (byte 45)
abbrev pub has_hyphen : Text → Bool
has_hyphen [] = false
has_hyphen (b ∷ bs) = b == 45

-- the text is a number from 1 to `most`, perhaps with a plus in front
abbrev pub IsNumberTo : ℕ → Text → Type 0
IsNumberTo most text = let digits = without_leading_plus text in
    IsNumeral 10 digits × (1 ≤ digits_value 10 digits) × (digits_value 10 digits ≤ most)

-- the text names a variant
abbrev pub IsVariant : Text → Type 0
IsVariant text = (text ≡ codes "normal") ⊎ (text ≡ codes "fischerandom")

-- the text says whether draws must be claimed
abbrev pub IsDraws : Text → Type 0
IsDraws text = (text ≡ codes "claimed") ⊎ (text ≡ codes "automatic")

-- `verify` has this option; its value, if it has one, begins with no hyphen
abbrev pub IsOfVerify : Given → Type 0
IsOfVerify (valued name value) = (has_hyphen value ≡ false) × (name ≡ codes "ignore")
IsOfVerify (flag name) = (name ≡ codes "keep-going") ⊎ (name ≡ codes "quiet") ⊎ (name ≡ codes "strict")
    ⊎ (name ≡ codes "explain") ⊎ (name ≡ codes "spans") ⊎ (name ≡ codes "names")
    ⊎ (name ≡ codes "variations")

-- `match` has this option, which may have this value; the value begins with no hyphen
abbrev pub IsOfMatch : Given → Type 0
IsOfMatch (valued name value) = (has_hyphen value ≡ false)
    × ((name ≡ codes "white") ⊎ (name ≡ codes "black") ⊎ (name ≡ codes "level") ⊎ (name ≡ codes "white-level")
    ⊎ (name ≡ codes "black-level") ⊎ (name ≡ codes "fen") ⊎ (name ≡ codes "date")
    ⊎ ((name ≡ codes "games") × IsNumberTo 1000 value)
    ⊎ ((name ≡ codes "reply-timeout") × IsNumberTo 999 value) ⊎ ((name ≡ codes "variant") × IsVariant value)
    ⊎ ((name ≡ codes "draws") × IsDraws value))
IsOfMatch (flag name) = (name ≡ codes "log") ⊎ (name ≡ codes "flag")

-- each of the options passes the test, and none is given twice
abbrev pub EachOnce : (Given → Type 0) → List Given → Type 0
EachOnce IsOf options = AllByRecursion IsOf options × AllPairs (λ g h. name_of g ≢ name_of h) options

-- the command line is plain: each option is one of its subcommand's, and given at most once; a match names both
-- engines; nothing that a stub plays begins with a hyphen
abbrev pub IsPlain : CommandLine → Type 0
IsPlain empty = ⊤
IsPlain session = ⊤
IsPlain (verify options) = EachOnce IsOfVerify options
IsPlain (stub replies) = AllByRecursion (λ reply. has_hyphen reply ≡ false) replies
IsPlain (match options) = EachOnce IsOfMatch options × IsSome (values_in options (codes "white"))
    × IsSome (values_in options (codes "black"))

-- each right reading of plain arguments (`IsReading`) is right by what the command line says (`IsReadAs`), where `clap`
-- has no fault to report (`[]`)
abbrev pub PlainArgumentsAreRead : Type 0
PlainArgumentsAreRead = (line : CommandLine) (r : Result Plan WordsFault) → IsPlain line
    → IsReading (arguments_of line) r → IsReadAs [] (said_in line) r
