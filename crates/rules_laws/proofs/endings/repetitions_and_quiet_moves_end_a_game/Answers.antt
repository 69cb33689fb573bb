-- Verdicts and claims ask whether the count of repetitions or the clock is at least n; it is exactly if `IsThere n` or
-- `IsQuietFor n` holds of the game's positions and moves, by induction over these (counting_ends of Counted).
use Rattle.rules_laws.proofs.Counted.{counting_ends}
use Rattle.rules_laws.proofs.endings.repetitions_and_quiet_moves_end_a_game.Goals as goal

pub returns : goal.returns
returns c = counting_ends
