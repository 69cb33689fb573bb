-- The clock and the opening's moment are those of the match, so the flag falls in the core where it falls in the match
-- (CoreSteps.flag_kept). If it falls, the match ends (`fall_flag`); otherwise nothing changes and nothing is sent
-- (CoreSteps.quiet_goes).
use Rattle.std.proofs.Common.{ap}
use Rattle.chess_match.specs.Acts.{is_over}
use Rattle.chess_match.proofs.CoreSteps.{flag_kept, quiet_goes, silence_goes}
use Rattle.chess_match.proofs.state.MatchState.owe_move.Goals as goal

pub returns-then-is_flagged : goal.returns-then-is_flagged
returns-then-is_flagged g c r m p at s =
    let flag = flag_kept r _ _ m c.args.side _ _ _ _ s c.saturating_sub.ensures c.is_flagged.ensures
    c.if-is_flagged.true in
    silence_goes r _ _ _ _ c.args.side c.args.moment m _ at (rw flag (c.fall_flag.ensures r m p (ap is_over at) s))

pub returns : goal.returns
returns g c r m p at s =
    let flag = flag_kept r _ _ m c.args.side _ _ _ _ s c.saturating_sub.ensures c.is_flagged.ensures
    c.if-is_flagged.false in
    silence_goes r _ _ _ _ c.args.side c.args.moment m _ at (rw flag (quiet_goes r _ _ m s))
