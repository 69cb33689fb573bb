-- The limit and the moment from which the time runs are those of the match, so the time is over in the core where it is
-- over in the match (CoreSteps.reply_kept). If it is over, the match ends by the fault; otherwise nothing is sent, and
-- the time runs on, or from this silence if it didn't run before (CoreSteps.quiet_since).
use Rattle.std.proofs.Common.{true, false}
use Rattle.chess_match.proofs.CoreSteps.{quiet_since, reply_kept}
use Rattle.chess_match.proofs.state.MatchState.owe_reply.Goals as goal

pub returns-then-is_beyond : goal.returns-then-is_beyond
returns-then-is_beyond c r played m on s =
    rw (reply_kept r _ played m c.args.moment _ _ _ true s c.unwrap_or-since.ensures c.saturating_sub.ensures
    c.is_beyond.ensures c.if-is_beyond.true) (c.finish.ensures r played m on s)

pub returns : goal.returns
returns c r played m on s =
    rw (reply_kept r _ played m c.args.moment _ _ _ false s c.unwrap_or-since.ensures c.saturating_sub.ensures
    c.is_beyond.ensures c.if-is_beyond.false)
    (quiet_since r _ _ played m c.args.moment _ s c.unwrap_or-since.ensures (c.await_since.ensures.stands r played m s))
