-- All games of a match but the last are without a fault of an engine. If a write to an engine fails, a fault is
-- reported (none_failed), so in these games none failed, and the counts of failures are as before (no_failures).
use Rattle.std.specs.List.{AllByRecursion, enumerate_from}
use Rattle.std.proofs.Common.{◌≡◌, ◌∙◌, ◌<◌, ◌+◌, ℕ, Bool, true, false, List, [], ◌∷◌, length, Some, None, refl, ap, sym, arith, cond, nat_lt, option_map}
use Rattle.std.proofs.lemmas.Bool.Decides.{nat_tests}
use Rattle.byte_devices.specs.{Devices.OutputState, Transfers.ToOutput, Transfers.OutputTook}
use Rattle.byte_devices.proofs.shared.Transfers.{saturating_increment_if}
use Rattle.chess_base.specs.{declared.man.Colour.Colour, declared.man.Colour.TheVariants.White, declared.man.Colour.TheVariants.Black}
use Rattle.chess_match.specs.{laws.Laws.broken_blocks, laws.Laws.is_broken, laws.Laws.lines_sent, Lines.SentLine, Notes.Note, Played.PlayedNoting, Played.WasSent, Played.World, Reasons.reported_fault, declared.reason.MatchFault.MatchFault, declared.reason.MatchFault.TheVariants.Write, declared.reason.Reason.Reason, declared.reason.Reason.TheVariants.Faulted, declared.run.MatchEnd.MatchEnd, declared.run.Setup.Setup}
use Rattle.chess_match.specs.declared.games_plan.GamesPlan.{GamesPlan}
use Rattle.match_runner.specs.{Games.GameRecord, Games.IsOfPlan}
use Rattle.match_runner_laws.specs.Faults.{KeepsFailureCounts, OnlyLastGamesHaveFailedWrites}

-- ---- a match without a fault

-- if no write fault is reported, neither White's writes nor Black's failed (x, y)
by_side : (x y : Bool)
    → option_map {U = Colour × MatchFault} (λ side. (side, Write)) (cond x (Some White) (cond y (Some Black) None)) ≡ None
    → (x ≡ false) × (y ≡ false)
by_side true y e = absurd cc
by_side false true e = absurd cc
by_side false false e = (refl, refl)

by_sides : (failed : Colour → Bool) (e : (failed White ≡ false) × (failed Black ≡ false)) (S : Colour)
    → failed S ≡ false
by_sides failed e White = e.0
by_sides failed e Black = e.1

-- without a reported fault no write failed to either side
none_failed : (reason : Reason) (failed : Colour → Bool) → reported_fault reason failed ≡ None
    → (failed White ≡ false) × (failed Black ≡ false)
none_failed (Faulted c f) failed e = absurd cc
none_failed _ failed e = by_side (failed White) (failed Black) e

none_above : (n : ℕ) → 0 < n → nat_lt 0 n ≡ false → ⊥
none_above n h e = grind (arith, nat_tests)

-- if no block broke off, the count of failures of an engine's input stays
all_written : (sent : List SentLine) (broken : List (List SentLine)) (w w' : OutputState) (o : ToOutput)
    → nat_lt 0 (length broken) ≡ false → OutputTook w w' o → WasSent sent broken o
    → w'.failure_count ≡ w.failure_count
all_written sent [] w w' o none took was =
    took.failures ∙ ap (λ (p : ToOutput). saturating_increment_if p.failed w.failure_count) was
all_written sent (block ∷ []) w w' o none took was = absurd (none_above 1 (omega arith) none)
all_written sent (block ∷ next ∷ more) w w' o none took was = absurd was

-- a match without a fault leaves both counts as they were
no_failures : (notes : List Note) (setup : Setup) (end : MatchEnd) (w w' : World)
    → PlayedNoting (λ given. given ≡ notes) setup end w w' → end.fault ≡ None
    → (S : Colour) → (w'.engines S).output.failure_count ≡ (w.engines S).output.failure_count
no_failures notes setup end w w' (H, reason, given, (final, run, reported, left)) none S =
    let (i, o, gave, took, (said, was)) = run.passed S in
    all_written (lines_sent S H) (broken_blocks S H) (w.engines S).output (w'.engines S).output o
    (by_sides (is_broken H) (none_failed reason (is_broken H) (sym reported.fault ∙ none)) S) took was

-- ---- games without a fault

-- by induction over the games from `number` on
from_there : (plan : GamesPlan) (number : ℕ) (games : List GameRecord)
    → AllByRecursion (λ g. IsOfPlan plan g.0 g.1 × (g.1.end.fault ≡ None)) (enumerate_from number games)
    → AllByRecursion KeepsFailureCounts games
from_there plan number [] h = tt
from_there plan number (g ∷ games) ((of, none), rest) = (
  no_failures g.notes _ g.end g.before g.after of.2 none,
  from_there plan (number + 1) games rest,
)

pub only_last_games_have_failed_writes : OnlyLastGamesHaveFailedWrites
only_last_games_have_failed_writes plan games h = from_there plan 1 games h
