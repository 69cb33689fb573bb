-- What the arguments ask for as they are written, on the way to a plan.
use Rattle.std.specs.Prelude.{◌≡◌, ◌≤◌, ◌*◌, ◌==◌, ◌||◌, ℕ, Bool, List, [], codes, map, option_map, Option, Some, Result, Ok, Err, true, false, ◌≢◌, if◌then◌else◌, unwrap_or}
use Rattle.std.specs.List.{list_all, slice_split}
use Rattle.std.specs.Option.{option_map_or}
use Rattle.std.specs.Str.{bytes_eq}
use Rattle.clap.specs.Words.{Row, Text, all_of, first_of, kind_of, subcommand_of}
use Rattle.arbiter_grammar.specs.Grammar.{OptionNames, arbiter_app}
use Rattle.arbiter_cli.specs.declared.plan.Plan.{Plan}
use Rattle.arbiter_cli.specs.declared.plan.Plan.TheVariants.{Session, Verify, Stub, Match}
use Rattle.chess_match.specs.declared.games_plan.GamesPlan.{GamesPlan}
use Rattle.chess_match.specs.declared.draws.Draws.{Draws}
use Rattle.chess_match.specs.declared.draws.Draws.TheVariants.{Automatic, Claimed}
use Rattle.chess_match.specs.declared.patience.Patience.{Patience}
use Rattle.arbiter_cli.specs.declared.fault.WordsFault.{WordsFault}
use Rattle.arbiter_cli.specs.declared.fault.WordsFault.TheVariants.{Words, NoMemory, BadLevel, BadFen, BadDate, BadKind}
use Rattle.arbiter_cli.specs.declared.request.MatchRequest.{MatchRequest}
use Rattle.arbiter_cli.specs.declared.request.Request.{Request}
use Rattle.arbiter_cli.specs.declared.request.Request.TheVariants as request
use Rattle.chess_base.specs.Initial.{initial_setup_of}
use Rattle.chess_base.specs.declared.fen_fault.FenFault.{FenFault}
use Rattle.chess_base.specs.declared.man.Variant.{Variant}
use Rattle.chess_base.specs.declared.man.Variant.TheVariants.{Normal, Fischerandom}
use Rattle.chess_base.specs.declared.setup.Setup.{Setup}
use Rattle.chess_fen.specs.Reading.{◌>>=◌, fen_reading_as}
use Rattle.cecp_engine.specs.Levels.{LevelSeen, level_reading}
use Rattle.cecp_engine.specs.declared.level_fault.LevelFault.{LevelFault}
use Rattle.arbiter_cli.specs.Plans.{Said, Values, has_value, is_date, is_set, number_of, verify_options_of}
use Rattle.clap.specs.declared.error.Error.{Error}
use Rattle.clap.specs.declared.error.kind.ErrorKind.TheVariants.{OutOfMemory}

-- the values of options by their names, without `--`, from the options as `clap` matched them (`rows`): the first value
-- of each; `None` for an option without one
abbrev pub matched : List Row → Values
matched rows = λ name. first_of name rows

-- what arguments say by the subcommand's name and its options as matched
abbrev pub said_of : Text × List Row → Said
said_of p =
    record { command = p.0; value = matched p.1; replies = unwrap_or (all_of (codes "words") p.1) [] }

-- what the arguments (`words`) ask for if they have no fault: the subcommand's name and its options, as `clap` matches
-- them; `session` without options if there is no subcommand
abbrev pub asked : OptionNames → List Text → Text × List Row
asked names words = unwrap_or (subcommand_of (arbiter_app names) words) (codes "session", [])

-- whether `verify` may ignore a kind of fault with this name
abbrev pub is_kind : Text → Bool
is_kind name = bytes_eq name (codes "variant")
    || (bytes_eq name (codes "result") || (bytes_eq name (codes "board") || bytes_eq name (codes "after-end")))

-- the names between the commas (byte 44) of a list; none without a list
abbrev pub names_in : Option Text → List Text
names_in list = option_map_or (slice_split (λ b. b == 44)) list []

-- the variant that `--variant` asks for: Chess960 for `fischerandom`, normal chess for any other name or none
abbrev pub variant_in : Values → Variant
variant_in value = if has_value (codes "variant") (codes "fischerandom") value then Fischerandom else Normal

-- whether draws must be claimed, by `--draws`: they need no claim for `automatic`, and one for any other name or none
abbrev pub draws_in : Values → Draws
draws_in value = if has_value (codes "draws") (codes "automatic") value then Automatic else Claimed

-- how many games `--games` asks for; 1 without `--games`
abbrev pub games_in : Values → ℕ
games_in value = option_map_or number_of (value (codes "games")) 1

-- the patience with this flag and so many seconds for a reply (`None`: no limit), kept as milliseconds
abbrev pub patience_by : Bool → Option ℕ → Patience
patience_by flag seconds = record { flag = flag; reply = option_map (λ n. n * 1000) seconds }

-- the position that a match starts in: what the FEN denotes, or without one the initial position of the variant
abbrev pub start_of : Variant → Option Text → Result Setup FenFault
start_of v fen = option_map_or (fen_reading_as v) fen (Ok (initial_setup_of v))

-- the time controls of both engines: each has its own, if there is one (`white`, `black`), otherwise the common one
-- (`text`). The fault is that of the first of `text`, `white` and `black` that is invalid
abbrev pub levels_by : Text → Option Text → Option Text → Result (LevelSeen × LevelSeen) LevelFault
levels_by text white black = do
  level ← level_reading text
  first ← option_map_or level_reading white (Ok level)
  second ← option_map_or level_reading black (Ok level)
  Ok (first, second)

-- the request `m` has what the options of `match` were given, or their defaults; levels, FEN and date are still texts
pub record IsMatchOf (value : Values) (m : MatchRequest) : Type 0 where
  pub white : value (codes "white") ≡ Some m.white.now
  pub black : value (codes "black") ≡ Some m.black.now
  pub level : m.level.now ≡ unwrap_or (value (codes "level")) (codes "40 5 0")
  pub white_level : option_map (λ t. t.now) m.white_level ≡ value (codes "white-level")
  pub black_level : option_map (λ t. t.now) m.black_level ≡ value (codes "black-level")
  pub fen : option_map (λ t. t.now) m.fen ≡ value (codes "fen")
  pub games : m.games ≡ games_in value
  pub games_range : (1 ≤ m.games) × (m.games ≤ 1000)
  pub date : m.date.now ≡ unwrap_or (value (codes "date")) (codes "????.??.??")
  pub variant : m.variant ≡ variant_in value
  pub log : m.log ≡ is_set (codes "log") value
  pub flag : m.flag ≡ is_set (codes "flag") value
  pub reply : m.reply ≡ option_map number_of (value (codes "reply-timeout"))
  pub draws : m.draws ≡ draws_in value

-- the request is what the arguments ask for, with levels, FEN and date of a match still as texts, and with the list of
-- kinds to ignore as it was given
abbrev pub IsRequestOf : Said → Request → Type 0
IsRequestOf said request.Session = said.command ≡ codes "session"
IsRequestOf said (request.Verify keep_going options ignored) = (said.command ≡ codes "verify")
    × (keep_going ≡ is_set (codes "keep-going") said.value) × (options ≡ verify_options_of said.value)
    × (option_map (λ t. t.now) ignored ≡ said.value (codes "ignore"))
IsRequestOf said (request.Stub arguments) = (said.command ≡ codes "stub")
    × (map (λ w. w.now) arguments.items ≡ said.replies)
IsRequestOf said (request.Match m) = (said.command ≡ codes "match") × IsMatchOf said.value m

-- the time controls of both engines by the texts of the request
abbrev pub levels_in : MatchRequest → Result (LevelSeen × LevelSeen) LevelFault
levels_in m = levels_by m.level.now (option_map (λ t. t.now) m.white_level) (option_map (λ t. t.now) m.black_level)

-- the plan of a match is what the request `m` asks for: levels and FEN as what they denote, a valid date, all else as
-- it is
pub record IsJudged (m : MatchRequest) (plan : GamesPlan) : Type 0 where
  pub white : plan.white ≡ m.white
  pub black : plan.black ≡ m.black
  pub levels : levels_in m ≡ Ok (plan.white_level, plan.black_level)
  pub start : start_of m.variant (option_map (λ t. t.now) m.fen) ≡ Ok plan.start
  pub games : plan.games ≡ m.games
  pub date : plan.date ≡ m.date
  pub log : plan.log ≡ m.log
  pub patience : plan.patience ≡ patience_by m.flag m.reply
  pub draws : plan.draws ≡ m.draws
  pub good_date : is_date m.date.now ≡ true

-- the fault is that of the first of levels, FEN and date that is invalid in this request of a match
abbrev pub IsJudgedFault : MatchRequest → WordsFault → Type 0
IsJudgedFault m (Words e) = ⊥
IsJudgedFault m NoMemory = ⊥
IsJudgedFault m BadKind = ⊥
IsJudgedFault m (BadLevel f) = levels_in m ≡ Err f
IsJudgedFault m (BadFen f) = (l : LevelSeen × LevelSeen) × (levels_in m ≡ Ok l)
    × (start_of m.variant (option_map (λ t. t.now) m.fen) ≡ Err f)
IsJudgedFault m BadDate = (l : LevelSeen × LevelSeen) × (p : Setup) × (levels_in m ≡ Ok l)
    × (start_of m.variant (option_map (λ t. t.now) m.fen) ≡ Ok p) × (is_date m.date.now ≡ false)

-- the plan is what the request asks for; of a match, levels and FEN are read, and the date is checked; of `verify`, the
-- kinds to ignore are
abbrev pub IsPlanned : Request → Plan → Type 0
IsPlanned request.Session plan = plan ≡ Session
IsPlanned (request.Verify keep_going options ignored) plan = (plan ≡ Verify keep_going options)
    × (list_all is_kind (names_in (option_map (λ t. t.now) ignored)) ≡ true)
IsPlanned (request.Stub arguments) plan = plan ≡ Stub arguments
IsPlanned (request.Match m) plan = (p : GamesPlan) × (plan ≡ Match p) × IsJudged m p

-- the fault is right for this request: that of the first of levels, FEN and date that is invalid in a match, or that of
-- the kinds to ignore of `verify`; no other request has one
abbrev pub IsPlanFault : Request → WordsFault → Type 0
IsPlanFault (request.Match m) f = IsJudgedFault m f
IsPlanFault (request.Verify keep_going options ignored) f = (f ≡ BadKind)
    × (list_all is_kind (names_in (option_map (λ t. t.now) ignored)) ≡ false)
IsPlanFault _ f = ⊥

-- this error of `clap` is reported by this fault: as out of memory if it is that, otherwise as the error itself
abbrev pub Refuses : Error → WordsFault → Type 0
Refuses e (Words e') = (kind_of e ≢ OutOfMemory) × (e' ≡ e)
Refuses e NoMemory = kind_of e ≡ OutOfMemory
Refuses e _ = ⊥
