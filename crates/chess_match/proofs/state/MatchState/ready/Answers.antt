-- Three cases: after White's setup comes Black's; after Black's the match ends if its start position ends it, and
-- otherwise the side on move there has its turn opened. The game and its position are those of the match, so code and
-- definition take the same case.
use Rattle.std.proofs.Common.{◌≡◌, ap, sym, ◌∙◌, Some, None}
use Rattle.chess_match.specs.{Acts.is_over, Effects.is_owed_move, Effects.over_by_position}
use Rattle.chess_match.proofs.CoreSteps.{first_opens, over_by_goes}
use Rattle.chess_match.proofs.state.MatchState.ready.Goals as goal

pub returns-in-White : goal.returns-in-White
returns-in-White g c r m p at s =
    rw c.in-White.is (c.enter.ensures r _ m (λ X. s.unsent (ap is_over at) X ∙ ap (λ q. is_owed_move q X) at) s)

pub returns-in-Some : goal.returns-in-Some
returns-in-Some g c r m p at s =
    let over : over_by_position r m.played ≡ Some c.in-Some.reason =
    ap (over_by_position r) (sym s.moves) ∙ sym (c.in-Some.ensures r p s.draws) in
    rw c.in-Black.is (over_by_goes r _ _ _ _ m _ _ over (c.finish.ensures r _ m (ap is_over at) s))

pub returns-in-None : goal.returns-in-None
returns-in-None g c r m p at s =
    let over : over_by_position r m.played ≡ None =
    ap (over_by_position r) (sym s.moves) ∙ sym (c.in-None.ensures r p s.draws) in
    rw c.in-Black.is (over_by_goes r _ _ _ _ m _ _ over
    (first_opens r _ _ _ m _ _ (c.first.ensures r p) (c.open_turn.ensures r _ m s)))
