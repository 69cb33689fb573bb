-- What `verify` says of the games that a match writes.
use Rattle.std.specs.Prelude.{◌≡◌, ℕ, false, List, [], ◌++◌, map, codes, Result}
use Rattle.byte_devices.specs.Transfers.{OutputTook, all_of}
use Rattle.chess_base.specs.Sound.{IsSound}
use Rattle.chess_game.specs.Results.{outcome_text}
use Rattle.match_runner.specs.GamesTable.{HostStep, Outputs, PlaysGamesWith}
use Rattle.match_runner.specs.declared.fault.GamesFault.{GamesFault}
use Rattle.chess_match.specs.declared.games_plan.GamesPlan.{GamesPlan}
use Rattle.verify_options.specs.declared.options.Strictness.{Strictness}
use Rattle.pgn_verifier.specs.Reports.{AreReports, Placed}
use Rattle.pgn_verifier.specs.laws.Reported.{Plain, PlainGame, without_spans}
use Rattle.match_pgn_laws.specs.Scores.{HasScore, result_lines, sum_of}

-- the line `[Result ..]` with the outcome that is reported; empty for a fault
abbrev pub result_reported : Plain → List ℕ
result_reported (PlainGame plies outcome termination) = codes "[Result \"" ++ outcome_text outcome ++ codes "\"]"
result_reported _ = []

-- the reports on this text are on games without a fault: one for each of its lines `[Result ..]`, in order, with the
-- outcome that the line names
pub record IsVerified (strict : Strictness) (text : List ℕ) : Type 0 where
  pub reports : List Placed
  pub are : AreReports false strict 0 text 0 reports
  pub results : map result_reported (without_spans reports) ≡ result_lines text

-- if a match from a sound position wrote its score, the games' text above it is verified (`IsVerified`), whatever is
-- looked for but faults in variations
abbrev pub MatchesPassVerify : Type 0
MatchesPassVerify = (strict : Strictness) → strict.variations ≡ false → (plan : GamesPlan)
    (result : Result (Unit {0}) GamesFault) (steps : List HostStep) (d d' : Outputs) → IsSound plan.start
    → HasScore result → PlaysGamesWith plan result steps d d'
    → (games : List ℕ) × OutputTook d.output d'.output (all_of (games ++ sum_of (result_lines games)))
    × IsVerified strict games
