-- What the program's arguments say, and which plan they ask for. `x ← r` in a `do` is `let x = r?` in Rust.
use Rattle.std.specs.Prelude.{◌≡◌, ◌≤◌, ◌*◌, ◌==◌, ◌&&◌, ℕ, Bool, not, true, false, List, [], ◌∷◌, codes, length, map, nat_le, if◌then◌else◌, Option, Some, Result, Ok, Err, unwrap_or, option_map, ⊤}
use Rattle.std.specs.List.{list_all, list_any, slice_split}
use Rattle.std.specs.Option.{option_map_or}
use Rattle.std.specs.Result.{result_map_both}
use Rattle.std.specs.Str.{bytes_eq}
use Rattle.std.specs.Str.Parse.{digits_value, without_leading_plus}
use Rattle.clap.specs.Words.{IsAmong, Kinds, Text, all_of, fault_of, first_of, kind_of, subcommand_of}
use Rattle.arbiter_grammar.specs.Grammar.{OptionNames, arbiter_app}
use Rattle.arbiter_cli.specs.declared.plan.Plan.{Plan}
use Rattle.arbiter_cli.specs.declared.plan.Plan.TheVariants.{Session, Verify, Stub, Match}
use Rattle.chess_match.specs.declared.games_plan.GamesPlan.{GamesPlan}
use Rattle.chess_match.specs.declared.draws.Draws.TheVariants.{Automatic, Claimed}
use Rattle.verify_options.specs.declared.options.VerifyOptions.{VerifyOptions}
use Rattle.arbiter_cli.specs.declared.fault.WordsFault.{WordsFault}
use Rattle.arbiter_cli.specs.declared.fault.WordsFault.TheVariants.{Words, NoMemory, BadLevel, BadFen, BadDate, BadKind}
use Rattle.chess_base.specs.Initial.{initial_setup_of}
use Rattle.chess_fen.specs.Reading.{◌>>=◌, fen_reading_as}
use Rattle.chess_base.specs.declared.fen_fault.FenFault.{FenFault}
use Rattle.chess_base.specs.declared.man.Variant.TheVariants.{Normal, Fischerandom}
use Rattle.chess_base.specs.declared.setup.Setup.{Setup}
use Rattle.cecp_engine.specs.Levels.{LevelSeen, level_reading}
use Rattle.cecp_engine.specs.declared.level_fault.LevelFault.{LevelFault}

-- ---- what arguments say

-- the values of options by their names, without `--`; `None` if not given. That of a flag is `true` if given, otherwise
-- `false` or `None`
abbrev pub Values : Type 0
Values = Text → Option Text

-- what arguments say: the subcommand (`session` if none is named), the options' values, and `replies`, the positional
-- arguments of `stub`
pub record Said : Type 0 where
  pub command : Text
  pub value : Values
  pub replies : List Text

-- whether this option was given with the value `text`
abbrev pub has_value : Text → Text → Values → Bool
has_value name text value = option_map_or (λ given. bytes_eq given text) (value name) false

-- whether this flag, such as `quiet` for `--quiet`, was given
abbrev pub is_set : Text → Values → Bool
is_set name value = has_value name (codes "true") value

-- the number that a value, decimal digits perhaps after a `+`, denotes
abbrev pub number_of : Text → ℕ
number_of text = digits_value 10 (without_leading_plus text)

-- ---- of `verify`

-- the names between the commas (byte 44) of `--ignore`, such as `result,board`, empty ones too; none without the option
abbrev pub ignored_in : Values → List Text
ignored_in value = option_map_or (slice_split (λ b. b == 44)) (value (codes "ignore")) []

-- whether `--ignore`, if given, names only kinds of fault that it may ignore
abbrev pub ignores_kinds : Values → Bool
ignores_kinds value = let kinds = codes "variant" ∷ codes "result" ∷ codes "board" ∷ codes "after-end" ∷ [] in
    list_all (λ name. list_any (bytes_eq name) kinds) (ignored_in value)

-- whether `--ignore` names this kind
abbrev pub is_ignored : Text → Values → Bool
is_ignored kind value = list_any (bytes_eq kind) (ignored_in value)

-- what the options of `verify` ask for, apart from `--keep-going`
abbrev pub verify_options_of : Values → VerifyOptions
verify_options_of value = let is_strict = is_set (codes "strict") value in record {
  quiet = is_set (codes "quiet") value;
  strict = record {
    -- unless `after-end` is ignored, fivefold repetition and 75 moves end a game (Laws of 2014), even without
    -- `--strict`
    draws_of_2014 = not (is_ignored (codes "after-end") value);
    variations = is_set (codes "variations") value;
    variant = is_strict && not (is_ignored (codes "variant") value);
    result = is_strict && not (is_ignored (codes "result") value);
    board = is_strict && not (is_ignored (codes "board") value);
  };
  spans = is_set (codes "spans") value;
  names = is_set (codes "names") value;
  explain = is_set (codes "explain") value;
}

-- ---- of `match`

-- the position in which each game of a match starts: that of `--fen`, or without it the initial position of normal
-- chess, both in the variant of `--variant` (Chess960 with `fischerandom`, otherwise normal chess); or the FEN's fault
abbrev pub start_asked : Values → Result Setup FenFault
start_asked value = let v = if has_value (codes "variant") (codes "fischerandom") value then Fischerandom else Normal in
    option_map_or (fen_reading_as v) (value (codes "fen")) (Ok (initial_setup_of v))

-- the time controls of the engines of `--white` and `--black`: each its own, if given, otherwise the common one, by
-- default 40 moves in 5 minutes; or the first fault. The common one must be valid even if each engine has its own
abbrev pub levels_asked : Values → Result (LevelSeen × LevelSeen) LevelFault
levels_asked value = do
  level ← level_reading (unwrap_or (value (codes "level")) (codes "40 5 0"))
  white ← option_map_or level_reading (value (codes "white-level")) (Ok level)
  black ← option_map_or level_reading (value (codes "black-level")) (Ok level)
  Ok (white, black)

-- whether a text may be the value of the tag Date: at most 60 bytes of printable ASCII (32 to 126)
abbrev pub is_date : Text → Bool
is_date text = nat_le (length text) 60 && list_all (λ b. nat_le 32 b && nat_le b 126) text

-- the time controls of a match's engines (first that of `--white`), its games' start and date; or the first fault
abbrev pub levels_start_and_date : Values → Result ((LevelSeen × LevelSeen) × Setup × Text) WordsFault
levels_start_and_date value = let date = unwrap_or (value (codes "date")) (codes "????.??.??") in do
  levels ← result_map_both (λ levels. levels) BadLevel (levels_asked value)
  start ← result_map_both (λ setup. setup) BadFen (start_asked value)
  if is_date date then Ok (levels, start, date) else Err BadDate

-- the plan of a match with these options, each as given or by default; `--white` and `--black` have no default
pub record IsMatchPlan (value : Values) (plan : GamesPlan) : Type 0 where
  -- the engines' commands
  pub white : value (codes "white") ≡ Some plan.white.now
  pub black : value (codes "black") ≡ Some plan.black.now
  -- the time controls, the start and the date
  pub read : levels_start_and_date value ≡ Ok ((plan.white_level, plan.black_level), plan.start, plan.date.now)
  -- as many games as `--games` asks for, or 1
  pub games : plan.games ≡ option_map_or number_of (value (codes "games")) 1
  pub games_range : (1 ≤ plan.games) × (plan.games ≤ 1000)
  pub log : plan.log ≡ is_set (codes "log") value
  pub flag : plan.patience.flag ≡ is_set (codes "flag") value
  -- in milliseconds, of `--reply-timeout` in seconds; without it no limit (`None`)
  pub reply : plan.patience.reply ≡ option_map (λ text. number_of text * 1000) (value (codes "reply-timeout"))
  -- `claimed`, the other value of `--draws`, is the default
  pub draws : plan.draws ≡ (if has_value (codes "draws") (codes "automatic") value then Automatic else Claimed)

-- ---- plans

-- the plan is what arguments that say `said` ask for
abbrev pub IsPlanOf : Said → Plan → Type 0
IsPlanOf said Session = said.command ≡ codes "session"
IsPlanOf said (Verify keep_going options) = (said.command ≡ codes "verify") × (ignores_kinds said.value ≡ true)
    × (keep_going ≡ is_set (codes "keep-going") said.value) × (options ≡ verify_options_of said.value)
-- the stub plays the positional arguments
IsPlanOf said (Stub arguments) = (said.command ≡ codes "stub") × (map (λ w. w.now) arguments.items ≡ said.replies)
IsPlanOf said (Match plan) = (said.command ≡ codes "match") × IsMatchPlan said.value plan

-- the result of reading arguments is right. `said`: what they say; `kinds`: the kinds of fault, except out of memory,
-- that `clap`, the parser of arguments, may report for them (help and the version count as such), none if it accepts
-- them
abbrev pub IsReadAs : Kinds → Said → Result Plan WordsFault → Type 0
-- the plan that they ask for
IsReadAs kinds said (Ok plan) = (kinds ≡ []) × IsPlanOf said plan
-- an error of `clap`, of one of these kinds
IsReadAs kinds said (Err (Words e)) = IsAmong (kind_of e) kinds
-- out of memory may be reported for any arguments
IsReadAs kinds said (Err NoMemory) = ⊤
-- `--ignore` names something that it may not ignore
IsReadAs kinds said (Err BadKind) = (kinds ≡ []) × (said.command ≡ codes "verify") × (ignores_kinds said.value ≡ false)
-- `f`: the first fault of a match's levels, FEN and date
IsReadAs kinds said (Err f) = (kinds ≡ []) × (said.command ≡ codes "match") × (levels_start_and_date said.value ≡ Err f)

-- ---- by the grammar

-- what the arguments say by the grammar with these `names`, if they have no fault; without a subcommand it is
-- `session`. `p`: the subcommand's name and its options as `clap` matches them, of which the first value counts;
-- positional arguments are named `words`
abbrev pub said_by : OptionNames → List Text → Said
said_by names arguments = let p = unwrap_or (subcommand_of (arbiter_app names) arguments) (codes "session", []) in
    record { command = p.0; value = λ name. first_of name p.1; replies = unwrap_or (all_of (codes "words") p.1) [] }

-- `result` is right (`IsReadAs`) for these arguments, without the program's name, by the grammar with some
-- `OptionNames`. For plain arguments the law `plain_arguments_are_read` says it without the grammar
abbrev pub IsReading : List Text → Result Plan WordsFault → Type 0
IsReading arguments result =
    (names : OptionNames) × IsReadAs (fault_of (arbiter_app names) arguments) (said_by names arguments) result
