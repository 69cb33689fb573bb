-- What the core represents afterwards (the clause `taken`). After a `feature` line: the match with the line's items
-- added, in which the time for the next reply runs from this line. Any other line has no items
-- (OtherLines.no_items_said), so it is the match as before (CoreSteps.no_items_stand).
use Rattle.std.proofs.Common.{ℕ, [], ◌++◌, Option, subst, sym}
use Rattle.chess_match.specs.{Effects.awaited_since, Effects.with_seat, ties.Represents.Represents}
use Rattle.chess_match.proofs.{CoreSteps.no_items_stand, OtherLines.no_items_said, OtherLines.uncounted}
use Rattle.chess_match.proofs.state.MatchState.take_line_items.Goals as goal

pub returns-in-Features-clause-taken : goal.returns-in-Features-clause-taken
returns-in-Features-clause-taken c r played m s =
    rw c.in-Features.is (c.take_items.ensures.taken r played (awaited_since c.args.moment m)
    (c.await_since.ensures.stands r played m s))

pub returns-in_default-clause-taken : goal.returns-in_default-clause-taken
returns-in_default-clause-taken c r played m s =
    rw (no_items_said c.args.line c.in_default.not-Features)
    (subst (λ (x : Option ℕ). Represents r c.args.self.now played
    (with_seat c.args.side (λ s. record s { items = s.items ++ [] }) (record m { since = x })))
    (sym (uncounted c.args.line c.args.moment m.since c.in_default.not-Features))
    (no_items_stand r _ played c.args.side m s))
