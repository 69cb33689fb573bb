-- The clock and the opening's moment are those of the match, so the flag falls in the core where it falls in the match
-- (CoreSteps.flag_kept). If it has fallen, `fall_flag` ends the match; otherwise the time for a reply runs from this
-- line, and `move_line` goes on by a move, `turn_line` by any other line.
use Rattle.std.proofs.Common.{◌-◌, ap}
use Rattle.chess_match.specs.{Acts.is_over, Effects.awaited_since}
use Rattle.chess_match.proofs.{CoreSteps.flag_kept, OtherLines.before_other}
use Rattle.chess_match.proofs.state.MatchState.before_line.Goals as goal

pub returns-then-is_flagged-clause-goes : goal.returns-then-is_flagged-clause-goes
returns-then-is_flagged-clause-goes g c r m p at s =
    let flag = flag_kept r _ _ m c.args.side _ _ _ _ s c.saturating_sub-used.ensures c.is_flagged.ensures
    c.if-is_flagged.true in
    rw flag (c.fall_flag.ensures r m p (ap is_over at) s)

pub returns-in-Move-clause-goes : goal.returns-in-Move-clause-goes
returns-in-Move-clause-goes g c r m p at s =
    let flag = flag_kept r _ _ m c.args.side _ _ _ _ s c.saturating_sub-used.ensures c.is_flagged.ensures
    c.if-is_flagged.false in
    rw (c.in-Move.is, flag, ← c.saturating_sub-used.ensures)
    (c.move_line.ensures.goes r (awaited_since c.args.moment m) p (ap is_over at)
    (c.await_since.ensures.stands r _ m s))

pub returns-in_default-clause-goes : goal.returns-in_default-clause-goes
returns-in_default-clause-goes g c r m p at s =
    let flag = flag_kept r _ _ m c.args.side _ _ _ _ s c.saturating_sub-used.ensures c.is_flagged.ensures
    c.if-is_flagged.false in
    rw (
      flag,
      before_other r c.args.side c.args.line (c.args.moment - c.args.self.now.opened)
          (awaited_since c.args.moment m) c.in_default.not-Move,
    )
    (c.turn_line.ensures r (awaited_since c.args.moment m) p (ap is_over at) (c.await_since.ensures.stands r _ m s))
