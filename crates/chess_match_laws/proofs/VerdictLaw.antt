-- A match that ended for a verdict has it on the board (Verdicts.judged_at_end of chess_match), and the reported
-- outcome is that of its game: if the board has a verdict, both are the verdict's, and otherwise both are that of the
-- reason for which the match ended.
use Rattle.std.proofs.Common.{◌≡◌, ℕ, List, refl, ap, sym, ◌∙◌, subst, Option, None, Some}
use Rattle.std.specs.Option.{option_map, option_map_or, option_or}
use Rattle.chess_game.specs.{declared.verdicts.Verdict.Verdict, Ends.verdict, Ends.verdict_result, Game.Seen, Game.outcome_now, declared.results.Outcome.Outcome, declared.results.Outcome.TheVariants.Unfinished, declared.tags.HowEnded.HowEnded}
use Rattle.chess_match.specs.{Effects.Phase, Reasons.declared_at, Reasons.outcome_by_reason, Reasons.reported_reason, declared.reason.Reason.Reason}
use Rattle.chess_match_laws.specs.OfActs.{DecidedByTheBoard, OutcomesAreOfTheGame}
use Rattle.chess_match.proofs.shared.Verdicts.{ByBoard, judged_at_end}

pub decided_by_the_board : DecidedByTheBoard
decided_by_the_board r v H final g e =
    subst (λ (p : Phase). ByBoard r final.played p) e (judged_at_end r H final g).1

-- the outcome of a game whose board has this verdict, after a match that ended for this reason: the verdict's, or
-- without one that of what the match declared
abbrev outcome_at : Option Verdict → Reason → Outcome
outcome_at v reason =
    option_map_or (λ d. d.outcome) (option_or (option_map verdict_result v) (declared_at v reason)) Unfinished

-- the outcome of the reason that is reported is that of the game
outcome_is : (v : Option Verdict) (reason : Reason)
    → outcome_by_reason (reported_reason v reason) ≡ outcome_at v reason
outcome_is None reason = refl
outcome_is (Some v) reason = refl

pub outcomes_are_of_the_game : OutcomesAreOfTheGame
outcomes_are_of_the_game H reason setup end w w' (final, passed, is, left) =
    sym (ap (λ (t : Outcome × List ℕ × HowEnded). t.0) is.report)
    ∙ outcome_is (verdict setup.start final.played) reason
    ∙ sym (ap (λ (g : Seen). outcome_now g.state) left)
