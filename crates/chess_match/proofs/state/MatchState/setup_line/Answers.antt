-- By the kind of the line: `pong 1` restarts the time for a reply and ends the setup (`ready`); a `pong` with another
-- number and any other line are ignored (`ignore`).
use Rattle.std.proofs.Common.{◌≡◌, true, false, ap, eq-eqb, ne_eqb, ◌==◌}
use Rattle.chess_match.specs.{Acts.is_over, Effects.awaited_since}
use Rattle.chess_match.proofs.OtherLines.{setup_other}
use Rattle.chess_match.proofs.state.MatchState.setup_line.Goals as goal

pub returns-then-number-eq1 : goal.returns-then-number-eq1
returns-then-number-eq1 g c r m p at s =
    let answered : (c.in-Pong.number == 1) ≡ true = eq-eqb c.in-Pong.number 1 c.if-number-eq1.true in
    rw (c.in-Pong.is, answered) (c.ready.ensures r (awaited_since c.args.moment m) p at
    (c.await_since.ensures.stands r _ m s))

pub returns-else-number-eq1 : goal.returns-else-number-eq1
returns-else-number-eq1 g c r m p at s =
    let unanswered : (c.in-Pong.number == 1) ≡ false = ne_eqb c.in-Pong.number 1 c.if-number-eq1.false in
    rw (c.in-Pong.is, unanswered) (c.ignore.ensures r _ m (ap is_over at) s)

pub returns-in_default : goal.returns-in_default
returns-in_default g c r m p at s =
    rw (setup_other r c.args.side c.args.line c.args.moment m c.in_default.not-Pong)
    (c.ignore-in_default.ensures r _ m (ap is_over at) s)
