-- For laws of arguments: levels, start and date of a match are read in this order, and the first fault is the result.
-- So they can be replaced one by one by what each of them was read as (read_as).
use Rattle.std.proofs.Common.{◌≡◌, ◌∙◌, Bool, ap, codes, Result, Ok, Err, if◌then◌else◌, unwrap_or}
use Rattle.std.specs.Result.{result_map_both}
use Rattle.chess_base.specs.{declared.fen_fault.FenFault.FenFault, declared.setup.Setup.Setup}
use Rattle.chess_fen.specs.Reading.{◌>>=◌}
use Rattle.clap.specs.Words.{Text}
use Rattle.cecp_engine.specs.{Levels.LevelSeen, declared.level_fault.LevelFault.LevelFault}
use Rattle.arbiter_cli.specs.Plans.{Values, is_date, levels_asked, levels_start_and_date, start_asked}
use Rattle.arbiter_cli.specs.{declared.fault.WordsFault.WordsFault, declared.fault.WordsFault.TheVariants.BadLevel, declared.fault.WordsFault.TheVariants.BadFen, declared.fault.WordsFault.TheVariants.BadDate}

-- levels, start and date, read in turn
abbrev in_turn : Result (LevelSeen × LevelSeen) LevelFault → Result Setup FenFault → Text → Bool
    → Result ((LevelSeen × LevelSeen) × Setup × Text) WordsFault
in_turn level start date is_good =
    result_map_both (λ level. level) BadLevel level >>= λ l. result_map_both (λ setup. setup) BadFen start >>= λ s.
    if is_good then Ok (l, s, date) else Err BadDate

-- the value of `--date`, `????.??.??` if it was not given
abbrev pub date_asked : Values → Text
date_asked value = unwrap_or (value (codes "date")) (codes "????.??.??")

-- levels, start and date of a match by the readings of its options
pub read_as : (value : Values) (level : Result (LevelSeen × LevelSeen) LevelFault) (start : Result Setup FenFault) (date : Text)
    (is_good : Bool) → levels_asked value ≡ level → start_asked value ≡ start → date_asked value ≡ date
    → is_date date ≡ is_good
    → levels_start_and_date value ≡ in_turn level start date is_good
read_as value level start date is_good l s e d =
    ap (λ v. in_turn v (start_asked value) (date_asked value) (is_date (date_asked value))) l
    ∙ ap (λ v. in_turn level v (date_asked value) (is_date (date_asked value))) s
    ∙ ap (λ t. in_turn level start t (is_date t)) e
    ∙ ap (in_turn level start date) d
