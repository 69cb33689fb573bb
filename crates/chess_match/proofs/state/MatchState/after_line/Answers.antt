-- By the kind of the line: another move ends the match, the right `pong` opens the other's turn, and any other line
-- goes to `turn_line`. The right number is one more than the moves that the side's clock has counted
-- (CoreSteps.clocks_moves).
use Rattle.std.proofs.Common.{◌≡◌, true, false, ◌∙◌, ap, arith, length, eq-eqb, ne_eqb, ◌==◌}
use Rattle.chess_match.specs.{Acts.is_over, Effects.ping_number}
use Rattle.chess_match.proofs.{CoreSteps.clocks_moves, OtherLines.after_other}
use Rattle.chess_match.proofs.state.MatchState.after_line.Goals as goal

pub returns-in-Move : goal.returns-in-Move
returns-in-Move g c r m moment p at s = rw c.in-Move.is (c.finish.ensures r _ m (ap is_over at) s)

pub returns-then-number-moves : goal.returns-then-number-moves
returns-then-number-moves g c r m moment p at s =
    let moved : c.moves.result ≡ length (m.seat c.args.side).used = c.moves.ensures.value
    ∙ clocks_moves r _ _ m s c.args.side in
    let answered : (c.in-Pong.number == ping_number m c.args.side) ≡ true =
    eq-eqb c.in-Pong.number _ (omega (arith, moved)) in
    rw (c.in-Pong.is, answered, ← c.other.ensures) (c.open_turn.ensures r _ m s)

pub returns-else-number-moves : goal.returns-else-number-moves
returns-else-number-moves g c r m moment p at s =
    let moved : c.moves.result ≡ length (m.seat c.args.side).used = c.moves.ensures.value
    ∙ clocks_moves r _ _ m s c.args.side in
    let unanswered : (c.in-Pong.number == ping_number m c.args.side) ≡ false =
    ne_eqb c.in-Pong.number _ (omega (arith, moved)) in
    rw (c.in-Pong.is, unanswered) (c.ignore.ensures r _ m (ap is_over at) s)

pub returns-in_default : goal.returns-in_default
returns-in_default g c r m moment p at s =
    rw (after_other r c.args.side c.args.line moment m c.in_default.not-Move c.in_default.not-Pong)
    (c.turn_line.ensures r m p (ap is_over at) s)
