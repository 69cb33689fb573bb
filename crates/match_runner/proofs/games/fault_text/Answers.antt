-- The comment on a fault is ASCII (FaultTexts.comment_is_text), so it is a text in UTF-8.
use Rattle.match_runner.proofs.FaultTexts.{comment_is_text}
use Rattle.match_runner.proofs.games.fault_text.Goals as goal

pub unreachable-requires : goal.unreachable-requires
unreachable-requires c = c.in-Err.ensures.cases.0 (comment_is_text c.args.side c.args.fault _ c.comment.ensures.value)
