-- The count of ignored lines is that of the match, so both find the 10,000th too many; any other is only counted
-- (CoreSteps.counted_goes).
use Rattle.std.proofs.Common.{◌+◌, ◌<◌, ◌≤◌, arith, le-leb}
use Rattle.std.proofs.lemmas.Bool.{lt-leb}
use Rattle.chess_match.proofs.CoreSteps.{counted_goes}
use Rattle.chess_match.proofs.state.MatchState.ignore.Goals as goal

pub returns-then-self-ge-FLOOD_LEN : goal.returns-then-self-ge-FLOOD_LEN
returns-then-self-ge-FLOOD_LEN c r played m on s =
    let flood : 10000 ≤ m.count + 1 = omega (arith, s.count) in
    rw (le-leb 10000 (m.count + 1) flood) (c.finish.ensures r played m on s)

pub returns : goal.returns
returns c r played m on s =
    let differs : m.count + 1 < 10000 = omega (arith, s.count) in
    rw (lt-leb 10000 (m.count + 1) differs) (counted_goes r _ played m s)
