-- By the kind of the line: a resignation, an offer or a claim of a draw, a claim of a win, a rejected move, or any
-- other line. The game's claim, the offers and the counts of moves are those of the match, so each does in the core
-- what `turn_row` says of it.
use Rattle.std.proofs.Common.{◌≡◌, true, false, sym, ◌∙◌, Some, None, arith, length, lt-ltb, le-ltb, nat_lt}
use Rattle.chess_base.specs.Men.{other, same_colour}
use Rattle.chess_match.proofs.{CoreSteps.clocks_moves, OtherLines.ignored_other}
use Rattle.chess_match.proofs.state.MatchState.turn_line.Goals as goal
use Rattle.chess_game.specs.Ends.{claims, draw_claim}

pub returns-in-Resign : goal.returns-in-Resign
returns-in-Resign g c r m p on s = rw c.in-Resign.is (c.finish.ensures r _ m on s)

pub returns-in-Offer : goal.returns-in-Offer
returns-in-Offer g c r m p on s = rw c.in-Offer.is (c.offer.ensures r _ m on s)

pub returns-in-Some : goal.returns-in-Some
returns-in-Some g c r m p on s =
    let says : draw_claim (claims r.start m.played) ≡ Some c.in-Some.claim = rw (← s.moves) (sym (c.in-Some.ensures r p)) in
    rw (c.in-Draw.is, says) (c.finish-in-Some.ensures r _ m on s)

pub returns-in-None : goal.returns-in-None
returns-in-None g c r m p on s =
    let says : draw_claim (claims r.start m.played) ≡ None = rw (← s.moves) (sym (c.in-None.ensures r p)) in
    rw (c.in-Draw.is, says) (c.offer-in-None.ensures r _ m on s)

pub returns-then-same_colour : goal.returns-then-same_colour
returns-then-same_colour g c r m p on s =
    let same : same_colour c.in-Win.winner c.args.side ≡ true = sym c.if-same_colour.ensures in
    rw (c.in-Win.is, same) (c.finish-then-same_colour.ensures r _ m on s)

pub returns-else-same_colour : goal.returns-else-same_colour
returns-else-same_colour g c r m p on s =
    let differs : same_colour c.in-Win.winner c.args.side ≡ false = sym c.if-same_colour.ensures in
    rw (c.in-Win.is, differs) (c.finish-else-same_colour.ensures r _ m on s)

pub returns-then-moves-gt0 : goal.returns-then-moves-gt0
returns-then-moves-gt0 g c r m p on s =
    let moved : c.moves.result ≡ length (m.seat (other c.args.side)).used = c.moves.ensures.value
    ∙ rw c.other.ensures (clocks_moves r _ _ m s (other c.args.side)) in
    let known : nat_lt 0 (length (m.seat (other c.args.side)).used) ≡ true = lt-ltb 0 _ (omega (arith, moved)) in
    rw (c.in-Rejection.is, known) (c.finish-then-moves-gt0.ensures r _ m on s)

pub returns-else-moves-gt0 : goal.returns-else-moves-gt0
returns-else-moves-gt0 g c r m p on s =
    let moved : c.moves.result ≡ length (m.seat (other c.args.side)).used = c.moves.ensures.value
    ∙ rw c.other.ensures (clocks_moves r _ _ m s (other c.args.side)) in
    let known : nat_lt 0 (length (m.seat (other c.args.side)).used) ≡ false = le-ltb 0 _ (omega (arith, moved)) in
    rw (c.in-Rejection.is, known) (c.ignore.ensures r _ m on s)

pub returns-in_default : goal.returns-in_default
returns-in_default g c r m p on s =
    rw (ignored_other r c.args.side c.args.line m c.in_default.not-Resign c.in_default.not-Offer c.in_default.not-Draw
    c.in_default.not-Win c.in_default.not-Rejection) (c.ignore-in_default.ensures r _ m on s)
