-- Three cases: `done=1` is among the line's items, the line is the 1,000th without it, or any other. In each the core,
-- with the items taken over, represents the match with these items added; what it then gives is sent after the answers
-- to them (CoreSteps.answered_goes).
use Rattle.std.proofs.Common.{◌≡◌, ◌+◌, true, false, sym, ap, arith, le-leb, nat_le}
use Rattle.std.specs.List.{list_any}
use Rattle.std.proofs.lemmas.Bool.{lt-leb}
use Rattle.cecp_engine.specs.{Items.ends_handshake, Seen.seen}
use Rattle.chess_match.specs.{Acts.is_over, laws.Laws.items_in_line}
use Rattle.chess_match.proofs.CoreSteps.{answered_goes, counted_goes}
use Rattle.chess_match.proofs.state.MatchState.handshake_line.Goals as goal

pub returns-then-take_line_items-clause-goes : goal.returns-then-take_line_items-clause-goes
returns-then-take_line_items-clause-goes g c r m p at s =
    let items = items_in_line (seen c.args.line) in
    let done : list_any ends_handshake items ≡ true = sym c.if-take_line_items.ensures.done in
    rw done (answered_goes r _ _ _ c.args.side items _
    (c.handshake_done.ensures r _ p at (c.if-take_line_items.ensures.taken r _ m s)))

pub returns-then-self-ge-HANDSHAKE_LEN-clause-goes : goal.returns-then-self-ge-HANDSHAKE_LEN-clause-goes
returns-then-self-ge-HANDSHAKE_LEN-clause-goes g c r m p at s =
    let items = items_in_line (seen c.args.line) in
    let done : list_any ends_handshake items ≡ false = sym c.if-take_line_items.ensures.done in
    let many : nat_le 1000 (m.count + 1) ≡ true =
    le-leb 1000 (m.count + 1) (omega (arith, s.count, c.if-take_line_items.ensures.count)) in
    rw (done, many) (answered_goes r _ _ _ c.args.side items _
    (c.finish.ensures r _ _ (ap is_over at) (c.if-take_line_items.ensures.taken r _ m s)))

pub returns-clause-goes : goal.returns-clause-goes
returns-clause-goes g c r m p at s =
    let items = items_in_line (seen c.args.line) in
    let done : list_any ends_handshake items ≡ false = sym c.if-take_line_items.ensures.done in
    let few : nat_le 1000 (m.count + 1) ≡ false =
    lt-leb 1000 (m.count + 1)
    (omega (arith, s.count, c.if-take_line_items.ensures.count, c.if-self-ge-HANDSHAKE_LEN.false)) in
    rw (done, few) (answered_goes r _ _ _ c.args.side items _
    (counted_goes r _ _ _ (c.if-take_line_items.ensures.taken r _ m s)))
