-- The loop's invariant: the steps at the table are those of a match that has come so far (OnTheWay); the game has the
-- setup's start and its own limit, nothing is declared in it, and both blocks are empty. The measure is
-- OnTheWay.steps_left.
use Rattle.std.proofs.Common.{◌≡◌, [], None}
use Rattle.chess_base.specs.ByColour.{of_colour}
use Rattle.chess_match.proofs.OnTheWay.{OnTheWay, phase_now, rules_in, steps_left}
use Rattle.chess_match.proofs.run.run_match_at.Given as goal

abbrev pub invariant-events : goal.invariant-events
invariant-events g l =
    OnTheWay (rules_in l.fn.setup l.fn.game) (g.T.MatchTable.passed l.fn.table)
    (g.T.MatchTable.passed l.table) l.core l.game.state.moves (of_colour l.failed)
    × (l.game.state.start ≡ l.fn.setup.start) × (l.game.limit ≡ l.fn.game.limit) × (l.game.state.declared ≡ None)
    × (l.blocks.own.items ≡ []) × (l.blocks.others.items ≡ [])

abbrev pub decreases-events : goal.decreases-events
decreases-events g l = steps_left (phase_now l.core) (g.T.MatchTable.left l.table)
