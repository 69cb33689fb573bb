-- Plain arguments are read as what they say (plain_read). For each kind of command line two things are shown (SaysIt):
-- `clap` reports no fault, and what it matched says the same as the command line itself. Then reading gives the same
-- plan by both (read_alike).
use Rattle.std.proofs.Common.{◌≡◌, ◌∙◌, ◌==◌, ◌&&◌, ◌||◌, Bool, true, false, not, List, [], ◌∷◌, Option, Some, None, Result, Ok, Err, codes, find, fold, flat_map, is_some, option_map, refl, sym, subst, ap, ap₂, lit<, bytes_eq, ◌*◌, if◌then◌else◌, unwrap_or}
use Rattle.std.specs.{List.list_all, List.list_any, List.slice_split, Option.option_map_or, Option.option_or}
use Rattle.clap.specs.Words.{Kinds, Row, Text, all_of, fault_of, first_of, subcommand_of}
use Rattle.clap.specs.Faults.{check_fault, defaults_fault, entered_fault, level_fault, settle_fault, turn_fault, walk_fault}
use Rattle.clap.specs.Kinds.{check_kinds, or_else}
use Rattle.clap.specs.Simple.{App, Shape, built, entered, label_of, names_of, rows_at}
use Rattle.clap.specs.Walk.{Walk, answers_to, finished, nothing_held, rows_after, settled, walk, walk_from, walked}
use Rattle.clap.proofs.{FaultLemmas.stopped_fault, WalkLemmas.walk_stopped}
use Rattle.arbiter_grammar.specs.Grammar.{OptionNames, arbiter_app}
use Rattle.chess_base.specs.{declared.fen_fault.FenFault.FenFault, declared.setup.Setup.Setup, Initial.initial_setup_of, declared.man.Variant.TheVariants.Normal, declared.man.Variant.TheVariants.Fischerandom}
use Rattle.chess_fen.specs.Reading.{◌>>=◌, fen_reading_as}
use Rattle.arbiter_cli.specs.Plans.{IsMatchPlan, IsReadAs, Said, Values, ignored_in, is_date, is_set, levels_asked, levels_start_and_date, number_of, said_by, start_asked, verify_options_of}
use Rattle.arbiter_cli.specs.{declared.plan.Plan.Plan, declared.fault.WordsFault.WordsFault}
use Rattle.arbiter_cli.specs.declared.plan.Plan.TheVariants.{Session, Verify, Stub, Match}
use Rattle.chess_match.specs.declared.games_plan.GamesPlan.{GamesPlan}
use Rattle.cecp_engine.specs.{Levels.LevelSeen, Levels.level_reading, declared.level_fault.LevelFault.LevelFault}
use Rattle.verify_options.specs.declared.options.VerifyOptions.{VerifyOptions}
use Rattle.chess_match.specs.{declared.draws.Draws.Draws, declared.draws.Draws.TheVariants.Automatic, declared.draws.Draws.TheVariants.Claimed}
use Rattle.arbiter_cli.specs.declared.fault.WordsFault.TheVariants.{Words, NoMemory, BadLevel, BadFen, BadDate, BadKind}
use Rattle.arbiter_laws.specs.PlainArguments.{CommandLine, Given, IsOfMatch, IsOfVerify, IsPlain, PlainArgumentsAreRead, arguments_of, empty, match, said_in, session, stub, values_in, verify, written}
use Rattle.arbiter_laws.proofs.Literals as literals
use Rattle.arbiter_laws.proofs.PlainOptions.{match_shape, of_match, of_verify, stub_shape, verify_shape}
use Rattle.arbiter_laws.proofs.{PlainRows.default_in, PlainRows.value_found, PlainRows.value_given, PlainStub.replies_are, PlainStub.replies_pass, PlainWalk.all_known, PlainWalk.rows_of_given, PlainWalk.takes_options, PlainArguments.is_listed, PlainArguments.shorter}
use Rattle.arbiter_cli.proofs.shared.Turns.{date_asked, read_as}

-- ---- the first argument names the subcommand

-- the program's grammar as `clap` completes it
abbrev whole : OptionNames → App
whole names = built (arbiter_app names)

-- what is asked for, by the subcommand's name and its options as matched
abbrev asked : OptionNames → List Text → Text × List Row
asked names words = unwrap_or (subcommand_of (arbiter_app names) words) (codes "session", [])

-- what is said by them
abbrev said_of : Text × List Row → Said
said_of p =
    record { command = p.0; value = λ name. first_of name p.1; replies = unwrap_or (all_of (codes "words") p.1) [] }

-- this pair, as a function
abbrev with_name : Text → List Row → Text × List Row
with_name name rows = (name, rows)

-- the walk over the arguments has stopped at the subcommand `command`, with these arguments left for it
abbrev stopped_at : Text → List Text → Walk
stopped_at command rest = record (walk_from nothing_held) { stopped = Some (command, rest) }

-- arguments that begin with `command`, the name of the subcommand `s` (`named`): the walk stops there (`stops`) without
-- a fault (`turns`), and `s` has the rest
module _ (names : OptionNames) (command : Text) (s : Shape) (rest : List Text)
    (stops : walked (whole names).top.rules (names_of (whole names)) (walk_from nothing_held) command
    ≡ stopped_at command [])
    (turns : turn_fault (whole names).top (names_of (whole names)) (walk_from nothing_held) command ≡ [])
    (named : find (λ s. answers_to command (label_of s)) (whole names).subs ≡ Some s) where
  abbrev all : List Text
  all = command ∷ rest

  walk_is : walk (whole names).top.rules (names_of (whole names)) nothing_held all ≡ stopped_at command rest
  walk_is = ap (λ (w : Walk). fold (walked (whole names).top.rules (names_of (whole names))) w rest) stops
      ∙ sym (walk_stopped (whole names).top.rules (names_of (whole names)) (walk_from nothing_held) command [] rest)

  -- what is asked for is `s`, with the rows that its rules make of the rest
  asked_is : asked names all ≡ (s.name, rows_after s.rules [] rest)
  asked_is = ap (λ (w : Walk). unwrap_or (entered (whole names) w.stopped) (codes "session", [])) walk_is
      ∙ ap (λ (o : Option Shape). unwrap_or (option_map (λ s. rows_at s rest) o) (codes "session", [])) named

  -- the walk over all arguments reports no fault
  walk_passes : walk_fault (whole names).top (names_of (whole names)) (walk_from nothing_held) all ≡ []
  unfolding walk_fault
  walk_passes = ap₂ (λ (x : Kinds) (w : Walk). or_else x (walk_fault (whole names).top (names_of (whole names)) w rest))
      turns stops ∙ stopped_fault (whole names).top (names_of (whole names)) (walk_from nothing_held) (command, []) rest

  -- nor do the checks after it, if `s` has no fault with the rest
  below_passes : level_fault s [] nothing_held rest false [] ≡ []
      → or_else (entered_fault (whole names) (Some (command, rest)))
      (check_fault (whole names).top (finished (whole names).top.rules nothing_held)
      (is_some (entered (whole names) (Some (command, rest))))) ≡ []
  below_passes level = ap (λ (o : Option Shape). or_else
      (option_map_or (λ s. level_fault s [] nothing_held rest false []) o [])
      (check_fault (whole names).top (finished (whole names).top.rules nothing_held)
      (is_some (option_map (λ s. rows_at s rest) o)))) named
      ∙ ap (λ (x : Kinds). or_else x
      (check_fault (whole names).top (finished (whole names).top.rules nothing_held) true)) level

  -- so there is none at all, if `s` has none with the rest
  no_fault : level_fault s [] nothing_held rest false [] ≡ [] → fault_of (arbiter_app names) all ≡ []
  unfolding defaults_fault
  no_fault level = ap₂ (λ (x : Kinds) (w : Walk). or_else x (or_else (entered_fault (whole names) w.stopped)
      (or_else (settle_fault (whole names).top.rules (whole names).top.args_override_self w.held)
      (or_else (defaults_fault (settled (whole names).top.rules w.held).rows (whole names).top.rules)
      (check_fault (whole names).top (finished (whole names).top.rules w.held)
      (is_some (entered (whole names) w.stopped)))))))
      walk_passes walk_is
      ∙ below_passes level

-- ---- who says the same

-- two sets of values ask for the same match: each option of `match` has the same value in both
record Agrees (v w : Values) : Type 0 where
  white : v (codes "white") ≡ w (codes "white")
  black : v (codes "black") ≡ w (codes "black")
  level : v (codes "level") ≡ w (codes "level")
  white_level : v (codes "white-level") ≡ w (codes "white-level")
  black_level : v (codes "black-level") ≡ w (codes "black-level")
  fen : v (codes "fen") ≡ w (codes "fen")
  games : v (codes "games") ≡ w (codes "games")
  date : v (codes "date") ≡ w (codes "date")
  variant : v (codes "variant") ≡ w (codes "variant")
  log : is_set (codes "log") v ≡ is_set (codes "log") w
  falls : is_set (codes "flag") v ≡ is_set (codes "flag") w
  reply : v (codes "reply-timeout") ≡ w (codes "reply-timeout")
  draws : v (codes "draws") ≡ w (codes "draws")

-- the start that these two options ask for
abbrev start_by : Option Text → Option Text → Result Setup FenFault
start_by name fen =
    let v = if option_map_or (λ t. bytes_eq t (codes "fischerandom")) name false then Fischerandom else Normal in
    option_map_or (fen_reading_as v) fen (Ok (initial_setup_of v))

-- the time controls that these three options ask for
abbrev levels_by : Option Text → Option Text → Option Text → Result (LevelSeen × LevelSeen) LevelFault
levels_by text white black = do
  level ← level_reading (unwrap_or text (codes "40 5 0"))
  first ← option_map_or level_reading white (Ok level)
  second ← option_map_or level_reading black (Ok level)
  Ok (first, second)

-- such values ask for the same levels, start and date
same_start : (v w : Values) → Agrees v w → levels_start_and_date v ≡ levels_start_and_date w
same_start v w a =
    read_as v (levels_asked w) (start_asked w) (date_asked w) (is_date (date_asked w))
    (ap (λ (o : Option Text). levels_by o (v (codes "white-level")) (v (codes "black-level"))) a.level
    ∙ ap₂ (levels_by (w (codes "level"))) a.white_level a.black_level)
    (ap₂ start_by a.variant a.fen)
    (ap (λ (o : Option Text). unwrap_or o (codes "????.??.??")) a.date) refl

-- how draws end games by this value of `--draws`
abbrev draws_with : Option Text → Draws
draws_with name = if option_map_or (λ t. bytes_eq t (codes "automatic")) name false then Automatic else Claimed

-- such values have the same plan of a match
same_match : (v w : Values) → Agrees v w → (plan : GamesPlan) → IsMatchPlan v plan → IsMatchPlan w plan
same_match v w a plan is = record {
  white = sym a.white ∙ is.white;
  black = sym a.black ∙ is.black;
  read = sym (same_start v w a) ∙ is.read;
  games = is.games ∙ ap (λ (o : Option Text). option_map_or number_of o 1) a.games;
  games_range = is.games_range;
  log = is.log ∙ a.log;
  flag = is.flag ∙ a.falls;
  reply = is.reply ∙ ap (option_map (λ text. number_of text * 1000)) a.reply;
  draws = is.draws ∙ ap draws_with a.draws;
}

-- two sets of values ask for the same with `verify`
record VerifiesAlike (v w : Values) : Type 0 where
  keeps_going : is_set (codes "keep-going") v ≡ is_set (codes "keep-going") w
  options : verify_options_of v ≡ verify_options_of w
  ignored : ignored_in v ≡ ignored_in w

-- two accounts of arguments ask for the same subcommand, and what counts for it is the same
record SaysTheSame (a b : Said) : Type 0 where
  command : a.command ≡ b.command
  on_verify : a.command ≡ codes "verify" → VerifiesAlike a.value b.value
  on_stub : a.command ≡ codes "stub" → a.replies ≡ b.replies
  on_match : a.command ≡ codes "match" → Agrees a.value b.value

-- whatever is right to read by one account is right by the other
read_alike : (a b : Said) → SaysTheSame a b → (r : Result Plan WordsFault) → IsReadAs [] a r → IsReadAs [] b r
read_alike a b s (Ok Session) (none, is) = (none, sym s.command ∙ is)
read_alike a b s (Ok (Verify keep_going options)) (none, is) =
    let same = s.on_verify is.0 in (
      none,
      (
        sym s.command ∙ is.0,
        sym (ap (list_all is_listed) same.ignored) ∙ is.1,
        is.2 ∙ same.keeps_going,
        is.3 ∙ same.options,
      ),
    )
read_alike a b s (Ok (Stub x)) (none, is) = (none, (sym s.command ∙ is.0, is.1 ∙ s.on_stub is.0))
read_alike a b s (Ok (Match plan)) (none, is) =
    (none, (sym s.command ∙ is.0, same_match a.value b.value (s.on_match is.0) plan is.1))
read_alike a b s (Err (Words e)) is = is
read_alike a b s (Err NoMemory) is = is
read_alike a b s (Err BadKind) (none, named, h) =
    (none, sym s.command ∙ named, sym (ap (list_all is_listed) (s.on_verify named).ignored) ∙ h)
read_alike a b s (Err (BadLevel f)) (none, named, h) =
    (none, sym s.command ∙ named, sym (same_start a.value b.value (s.on_match named)) ∙ h)
read_alike a b s (Err (BadFen f)) (none, named, h) =
    (none, sym s.command ∙ named, sym (same_start a.value b.value (s.on_match named)) ∙ h)
read_alike a b s (Err BadDate) (none, named, h) =
    (none, sym s.command ∙ named, sym (same_start a.value b.value (s.on_match named)) ∙ h)

-- ---- each kind of line

-- `clap` reports no fault for a command line, and what it matched says the same as the command line
record SaysIt (names : OptionNames) (line : CommandLine) : Type 0 where
  passes : fault_of (arbiter_app names) (arguments_of line) ≡ []
  says : SaysTheSame (said_by names (arguments_of line)) (said_in line)

-- a session, of which only the subcommand counts
is_session : (a b : Said) → a.command ≡ codes "session" → b.command ≡ codes "session" → SaysTheSame a b
is_session a b e f = record {
  command = e ∙ sym f;
  on_verify = λ is. absurd (shorter (codes "verify") (codes "session") (lit< tt) (sym is ∙ e));
  on_stub = λ is. absurd (shorter (codes "stub") (codes "session") (lit< tt) (sym is ∙ e));
  on_match = λ is. absurd (shorter (codes "match") (codes "session") (lit< tt) (sym is ∙ e));
}

-- the values of the options in these rows
abbrev matched : List Row → Values
matched rows = λ name. first_of name rows

abbrev is_true : Option Text → Bool
is_true o = option_map_or (λ t. bytes_eq t (codes "true")) o false

-- a flag that was not given has the default `false`, so it is not set either way
or_default : (o : Option Text) → is_true (option_or o (Some (codes "false"))) ≡ is_true o
or_default None = refl
or_default (Some t) = refl

-- an option without a default has no value if none was given
or_none : (o : Option Text) → option_or o None ≡ o
or_none None = refl
or_none (Some t) = refl

-- the option `name` of the subcommand `s`, in what `clap` matched and in the options given: a flag is set in both or in
-- neither, and an option has the same value
module _ (s : Shape) (options : List Given) (name : Text) where
  flag_alike : default_in name s.rules ≡ Some (codes "false")
      → is_set name (matched (rows_of_given s options)) ≡ is_set name (values_in options)
  flag_alike default = ap is_true (value_found name options s.rules ∙ ap (option_or (values_in options name)) default)
      ∙ or_default (values_in options name)

  value_alike : default_in name s.rules ≡ None → matched (rows_of_given s options) name ≡ values_in options name
  value_alike default = value_found name options s.rules ∙ ap (option_or (values_in options name)) default
      ∙ or_none (values_in options name)

-- the options of `verify` by its flags and by the names after `--ignore`
abbrev options_with : Bool → Bool → Bool → Bool → Bool → Bool → List Text → VerifyOptions
options_with quiet strict explain spans names variations ignored = record {
  quiet = quiet;
  strict = record {
    draws_of_2014 = not (list_any (bytes_eq (codes "after-end")) ignored);
    variations = variations;
    variant = strict && not (list_any (bytes_eq (codes "variant")) ignored);
    result = strict && not (list_any (bytes_eq (codes "result")) ignored);
    board = strict && not (list_any (bytes_eq (codes "board")) ignored);
  };
  spans = spans;
  names = names;
  explain = explain;
}

-- the names in the value of `--ignore`, which commas (44) separate
abbrev names_in : Option Text → List Text
names_in list = option_map_or (slice_split (λ b. b == 44)) list []

-- what `clap` matched and the options given ask for the same: of `verify` (this lemma and the next), and of `match`
-- (match_alike)
ignored_alike : (options : List Given)
    → ignored_in (matched (rows_of_given verify_shape options)) ≡ ignored_in (values_in options)
ignored_alike options = ap names_in (value_alike verify_shape options (codes "ignore") refl)

verify_alike : (options : List Given)
    → verify_options_of (matched (rows_of_given verify_shape options)) ≡ verify_options_of (values_in options)
verify_alike options =
    let alike = flag_alike verify_shape options in
    let own : Text → Bool = λ name. is_set name (values_in options) in
    let found : Text → Bool = λ name. is_set name (matched (rows_of_given verify_shape options)) in
    let list : List Text = ignored_in (matched (rows_of_given verify_shape options)) in
    ap₂ (λ (a b : Bool). options_with a b (found (codes "explain")) (found (codes "spans")) (found (codes "names"))
    (found (codes "variations")) list) (alike (codes "quiet") refl) (alike (codes "strict") refl)
    ∙ ap₂ (λ (c d : Bool). options_with (own (codes "quiet")) (own (codes "strict")) c d (found (codes "names"))
    (found (codes "variations")) list) (alike (codes "explain") refl) (alike (codes "spans") refl)
    ∙ ap₂ (λ (e f : Bool). options_with (own (codes "quiet")) (own (codes "strict")) (own (codes "explain"))
    (own (codes "spans")) e f list) (alike (codes "names") refl) (alike (codes "variations") refl)
    ∙ ap (options_with (own (codes "quiet")) (own (codes "strict")) (own (codes "explain")) (own (codes "spans"))
    (own (codes "names")) (own (codes "variations"))) (ignored_alike options)

match_alike : (names : OptionNames) (options : List Given)
    → Agrees (matched (rows_of_given (match_shape names) options)) (values_in options)
match_alike names options =
    let alike = value_alike (match_shape names) options in
    record {
      white = alike (codes "white") refl;
      black = alike (codes "black") refl;
      level = alike (codes "level") refl;
      white_level = alike (codes "white-level") refl;
      black_level = alike (codes "black-level") refl;
      fen = alike (codes "fen") refl;
      games = alike (codes "games") refl;
      date = alike (codes "date") refl;
      variant = alike (codes "variant") refl;
      log = flag_alike (match_shape names) options (codes "log") refl;
      falls = flag_alike (match_shape names) options (codes "flag") refl;
      reply = alike (codes "reply-timeout") refl;
      draws = alike (codes "draws") refl;
    }

-- two accounts of the same subcommand, `verify`, `stub` or `match`, say the same if what counts for it is the same
of_verify_only : (a b : Said) → a.command ≡ codes "verify" → b.command ≡ codes "verify"
    → VerifiesAlike a.value b.value → SaysTheSame a b
of_verify_only a b e f same = record {
  command = e ∙ sym f;
  on_verify = λ is. same;
  on_stub = λ is. absurd (shorter (codes "stub") (codes "verify") (lit< tt) (sym is ∙ e));
  on_match = λ is. absurd (shorter (codes "match") (codes "verify") (lit< tt) (sym is ∙ e));
}

of_stub_only : (a b : Said) → a.command ≡ codes "stub" → b.command ≡ codes "stub" → a.replies ≡ b.replies
    → SaysTheSame a b
of_stub_only a b e f same = record {
  command = e ∙ sym f;
  on_verify = λ is. absurd (shorter (codes "stub") (codes "verify") (lit< tt) (sym e ∙ is));
  on_stub = λ is. same;
  on_match = λ is. absurd (shorter (codes "stub") (codes "match") (lit< tt) (sym e ∙ is));
}

of_match_only : (a b : Said) → a.command ≡ codes "match" → b.command ≡ codes "match" → Agrees a.value b.value
    → SaysTheSame a b
of_match_only a b e f same = record {
  command = e ∙ sym f;
  on_verify = λ is. absurd (shorter (codes "match") (codes "verify") (lit< tt) (sym e ∙ is));
  on_stub = λ is. absurd (shorter (codes "stub") (codes "match") (lit< tt) (sym is ∙ e));
  on_match = λ is. same;
}

-- each kind of plain command line
says_it : (names : OptionNames) (line : CommandLine) → IsPlain line → SaysIt names line
unfolding walked
says_it names empty plain = record {
  passes = literals.none_asked.taken names;
  says = is_session _ _ (literals.none_asked.named names) refl;
}
says_it names session plain = record {
  passes = literals.session_asked.taken names;
  says = is_session _ _ (literals.session_asked.named names) refl;
}
says_it names (verify options) plain =
    let rest = flat_map written options in
    let known = all_known verify_shape IsOfVerify options of_verify plain.0 in
    let takes = takes_options verify_shape options known plain.1 refl refl in
    let is = asked_is names (codes "verify") verify_shape rest refl refl refl
    ∙ ap (with_name (codes "verify")) takes.rows in
    record {
      passes = no_fault names (codes "verify") verify_shape rest refl refl refl takes.passes;
      says = subst (λ (p : Text × List Row). SaysTheSame (said_of p) (said_in (verify options))) (sym is)
          (of_verify_only _ _ refl refl
          (record {
            keeps_going = flag_alike verify_shape options (codes "keep-going") refl;
            options = verify_alike options;
            ignored = ignored_alike options;
          }));
    }
says_it names (stub replies) plain =
    let is = asked_is names (codes "stub") stub_shape replies refl refl refl in
    record {
      passes = no_fault names (codes "stub") stub_shape replies refl refl refl (replies_pass replies plain);
      says = subst (λ (p : Text × List Row). SaysTheSame (said_of p) (said_in (stub replies))) (sym is)
          (of_stub_only _ _ refl refl (replies_are replies plain));
    }
says_it names (match options) plain =
    let s = match_shape names in
    let rest = flat_map written options in
    let white = value_given (codes "white") options s.rules plain.1 in
    let black = value_given (codes "black") options s.rules plain.2 in
    let check : check_fault s (rows_of_given s options) false ≡ [] =
    ap₂ (λ (w b : Bool). check_kinds false false (not w || (not b || false))) white black in
    let known = all_known s IsOfMatch options (of_match names) plain.0.0 in
    let takes = takes_options s options known plain.0.1 refl check in
    let is = asked_is names (codes "match") s rest refl refl refl
    ∙ ap (with_name (codes "match")) takes.rows in
    record {
      passes = no_fault names (codes "match") s rest refl refl refl takes.passes;
      says = subst (λ (p : Text × List Row). SaysTheSame (said_of p) (said_in (match options))) (sym is)
          (of_match_only _ _ refl refl (match_alike names options));
    }

pub plain_read : PlainArgumentsAreRead
plain_read line r plain (names, by) =
    let it = says_it names line plain in
    read_alike (said_by names (arguments_of line)) (said_in line) it.says r
    (subst (λ (kinds : Kinds). IsReadAs kinds (said_by names (arguments_of line)) r) it.passes by)
