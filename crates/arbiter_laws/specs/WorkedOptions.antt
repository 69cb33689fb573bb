-- Worked examples of what the options of `match` and `verify` mean.
use Rattle.std.specs.Prelude.{◌≡◌, true, false, List, [], ◌∷◌, codes, replicate, Some, None, Result, Ok, Err}
use Rattle.std.specs.Result.{result_map_both}
use Rattle.byte_devices.specs.Bytes.{byte, tab}
use Rattle.clap.specs.Words.{Text}
use Rattle.arbiter_cli.specs.Plans.{IsMatchPlan, ignores_kinds, levels_asked, levels_start_and_date, start_asked}
use Rattle.arbiter_cli.specs.declared.fault.WordsFault.{WordsFault}
use Rattle.arbiter_cli.specs.declared.fault.WordsFault.TheVariants.{BadDate, BadFen, BadLevel}
use Rattle.arbiter_cli.specs.declared.plan.Plan.{Plan}
use Rattle.arbiter_cli.specs.declared.plan.Plan.TheVariants.{Verify}
use Rattle.chess_base.specs.Initial.{initial_setup_of}
use Rattle.chess_base.specs.declared.fen_fault.FenFault.{FenFault}
use Rattle.chess_base.specs.declared.fen_fault.FenFault.TheVariants.{Fields}
use Rattle.chess_base.specs.declared.man.Variant.TheVariants.{Normal, Fischerandom}
use Rattle.chess_base.specs.declared.setup.Setup.{Setup}
use Rattle.chess_fen.specs.Reading.{fen_reading_as}
use Rattle.cecp_engine.specs.Levels.{LevelSeen}
use Rattle.cecp_engine.specs.declared.level_fault.LevelFault.{LevelFault}
use Rattle.cecp_engine.specs.declared.level_fault.LevelFault.TheVariants.{Words, Base}
use Rattle.chess_match.specs.declared.draws.Draws.TheVariants.{Automatic, Claimed}
use Rattle.chess_match.specs.declared.games_plan.GamesPlan.{GamesPlan}
use Rattle.verify_options.specs.declared.options.Strictness.{Strictness}
use Rattle.verify_options.specs.declared.options.VerifyOptions.{VerifyOptions}
use Rattle.arbiter_laws.specs.Arguments.{bare_options, bare_plan, verify_plan_of}
use Rattle.arbiter_laws.specs.PlainArguments.{Given, valued, flag, values_in}

-- ---- time controls

-- 40 moves in 5 minutes
abbrev pub forty_in_five : LevelSeen
forty_in_five = record { moves = 40; base = 300000; increment = 0 }

-- the game in 1 minute
abbrev pub one_minute : LevelSeen
one_minute = record { moves = 0; base = 60000; increment = 0 }

-- the game in 2 minutes
abbrev pub two_minutes : LevelSeen
two_minutes = record { moves = 0; base = 120000; increment = 0 }

-- these options ask for these time controls of both engines, or have this fault
abbrev pub AskForLevels : List Given → Result (LevelSeen × LevelSeen) LevelFault → Type 0
AskForLevels options levels = levels_asked (values_in options) ≡ levels

-- the option of the common level
abbrev pub level_of_both : Text → Given
level_of_both = valued (codes "level")

-- the option of the first engine's own level
abbrev pub level_of_white : Text → Given
level_of_white = valued (codes "white-level")

-- the option of the second engine's own level
abbrev pub level_of_black : Text → Given
level_of_black = valued (codes "black-level")

-- the time controls of both engines, by the common level and their own
pub record LevelsAreRead : Type 0 where
  pub by_default : AskForLevels [] (Ok (forty_in_five, forty_in_five))
  pub common : AskForLevels (level_of_both (codes "0 1 0") ∷ []) (Ok (one_minute, one_minute))
  pub own_of_white : AskForLevels (level_of_white (codes "0 1 0") ∷ []) (Ok (one_minute, forty_in_five))
  pub own_of_black : AskForLevels (level_of_black (codes "0 2 0") ∷ []) (Ok (forty_in_five, two_minutes))
  -- the common level must be valid, even if each engine has its own; a fault of the first engine's level is reported
  -- before one of the second's
  pub common_first : AskForLevels
      (level_of_white (codes "0 1 0") ∷ level_of_black (codes "0 2 0") ∷ level_of_both (codes "x") ∷ []) (Err Words)
  pub white_first : AskForLevels (level_of_black (codes "x") ∷ level_of_white (codes "0 0:60 0") ∷ []) (Err Base)

-- ---- the start

-- these options ask for this position as the start of each game, or have this fault
abbrev pub AskForStart : List Given → Result Setup FenFault → Type 0
AskForStart options start = start_asked (values_in options) ≡ start

-- the option that asks for Chess960
abbrev pub chess960_asked : Given
chess960_asked = valued (codes "variant") (codes "fischerandom")

-- the start of each game, by the variant and by a FEN, which is read in that variant
pub record StartsAreAsked : Type 0 where
  pub initial : AskForStart [] (Ok (initial_setup_of Normal))
  pub normal : AskForStart (valued (codes "variant") (codes "normal") ∷ []) (Ok (initial_setup_of Normal))
  pub chess960 : AskForStart (chess960_asked ∷ []) (Ok (initial_setup_of Fischerandom))
  pub fen : (fen : Text) → AskForStart (valued (codes "fen") fen ∷ []) (fen_reading_as Normal fen)
  pub fen_of_chess960 : (fen : Text)
      → AskForStart (valued (codes "fen") fen ∷ chess960_asked ∷ []) (fen_reading_as Fischerandom fen)

-- ---- the date

-- the option that gives this date
abbrev pub dated : Text → Given
dated = valued (codes "date")

-- the date that these options ask for; or the first fault of a level, the FEN or the date
abbrev pub date_asked : List Given → Result Text WordsFault
date_asked options = result_map_both (λ r. r.2) (λ fault. fault) (levels_start_and_date (values_in options))

-- the value of the tag Date of each game, and which of several faults is reported
pub record DatesAreRead : Type 0 where
  pub by_default : date_asked [] ≡ Ok (codes "????.??.??")
  pub given : date_asked (dated (codes "2026.12.01") ∷ []) ≡ Ok (codes "2026.12.01")
  -- a date has at most 60 bytes of printable ASCII
  pub sixty : date_asked (dated (replicate 60 (byte "1")) ∷ []) ≡ Ok (replicate 60 (byte "1"))
  pub too_long : date_asked (dated (replicate 61 (byte "1")) ∷ []) ≡ Err BadDate
  pub unprintable : date_asked (dated (tab ∷ []) ∷ []) ≡ Err BadDate
  -- a level comes first, then the FEN, then the date
  pub level_first :
      date_asked (dated (tab ∷ []) ∷ valued (codes "fen") (codes "x") ∷ level_of_both (codes "x") ∷ [])
      ≡ Err (BadLevel Words)
  pub then_fen : date_asked (dated (tab ∷ []) ∷ valued (codes "fen") (codes "x") ∷ []) ≡ Err (BadFen Fields)

-- ---- other options

-- the option `--flag`
abbrev pub flag_given : List Given
flag_given = flag (codes "flag") ∷ []

-- the option `--reply-timeout 30`
abbrev pub thirty_seconds : List Given
thirty_seconds = valued (codes "reply-timeout") (codes "30") ∷ []

-- the option `--draws automatic`
abbrev pub automatic_draws : List Given
automatic_draws = valued (codes "draws") (codes "automatic") ∷ []

-- the option `--games 10`
abbrev pub ten_games : List Given
ten_games = valued (codes "games") (codes "10") ∷ []

-- the option `--log`
abbrev pub log_given : List Given
log_given = flag (codes "log") ∷ []

-- `Is` holds of each plan of a match by two engines with these options
abbrev pub PlansAre : List Given → (GamesPlan → Type 0) → Type 0
PlansAre options Is = (white black : Text) (plan : GamesPlan)
    → IsMatchPlan (values_in (valued (codes "white") white ∷ valued (codes "black") black ∷ options)) plan → Is plan

-- these options of `verify` ask for this plan
abbrev pub AskForPlan : List Given → Plan → Type 0
AskForPlan options plan = verify_plan_of (values_in options) ≡ plan

-- these options of `verify`, without `--keep-going`, ask for this
abbrev pub AskForOptions : List Given → VerifyOptions → Type 0
AskForOptions given options = AskForPlan given (Verify false options)

-- these options of `verify` say which faults are looked for, and nothing else
abbrev pub LookFor : List Given → Strictness → Type 0
LookFor given strict = AskForOptions given (record bare_options { strict = strict })

-- the faults that are looked for without options
abbrev pub lenient : Strictness
lenient = bare_options.strict

-- what options ask for
pub record OptionsMean : Type 0 where
  -- the time for replies, given in seconds and kept in milliseconds; without the option it has no end
  pub reply : PlansAre thirty_seconds (λ plan. plan.patience.reply ≡ Some 30000)
  pub any_reply : PlansAre flag_given (λ plan. plan.patience.reply ≡ None)
  pub falls : PlansAre flag_given (λ plan. plan.patience.flag ≡ true)
  pub stays : PlansAre thirty_seconds (λ plan. plan.patience.flag ≡ false)
  pub automatic : PlansAre automatic_draws (λ plan. plan.draws ≡ Automatic)
  pub claimed : PlansAre thirty_seconds (λ plan. plan.draws ≡ Claimed)
  -- without options one game is played, and no log is written
  pub games : PlansAre ten_games (λ plan. plan.games ≡ 10)
  pub one_game : PlansAre log_given (λ plan. plan.games ≡ 1)
  pub logs : PlansAre log_given (λ plan. plan.log ≡ true)
  pub no_log : PlansAre ten_games (λ plan. plan.log ≡ false)
  -- the flags of `verify`, one by one
  pub keep_going : AskForPlan (flag (codes "keep-going") ∷ []) (Verify true bare_options)
  pub quiet : AskForOptions (flag (codes "quiet") ∷ []) (record bare_options { quiet = true })
  pub explain : AskForOptions (flag (codes "explain") ∷ []) (record bare_options { explain = true })
  pub spans : AskForOptions (flag (codes "spans") ∷ []) (record bare_options { spans = true })
  pub names : AskForOptions (flag (codes "names") ∷ []) (record bare_options { names = true })
  pub variations : LookFor (flag (codes "variations") ∷ []) (record lenient { variations = true })
  -- `--strict` looks for three faults, but for those that `--ignore` names
  pub strict : LookFor (flag (codes "strict") ∷ []) (record lenient { variant = true; result = true; board = true })
  pub no_board : LookFor (flag (codes "strict") ∷ valued (codes "ignore") (codes "board") ∷ [])
      (record lenient { variant = true; result = true })
  pub only_board : LookFor (flag (codes "strict") ∷ valued (codes "ignore") (codes "variant,result") ∷ [])
      (record lenient { board = true })
  pub not_strict : AskForPlan (valued (codes "ignore") (codes "board") ∷ []) bare_plan
  -- after fivefold repetition and 75 moves a game may go on
  pub after_end : LookFor (valued (codes "ignore") (codes "after-end") ∷ []) (record lenient { draws_of_2014 = false })
  -- the kinds that `--ignore` may name, and another
  pub kinds : ignores_kinds (values_in (valued (codes "ignore") (codes "variant,result,board,after-end") ∷ [])) ≡ true
  pub other_kind : ignores_kinds (values_in (valued (codes "ignore") (codes "result,moves") ∷ [])) ≡ false
