-- A token more keeps the invariant: the last tag from here on, or else the last so far, is the last of all
-- (LastTagReads.one_more). What is skipped after it changes nothing (LastTagReads.skipped_on).
use Rattle.std.proofs.Common.{sym, ◌∙◌}
use Rattle.pgn_tokens.specs.Seen.{token_seen}
use Rattle.pgn_tokens.proofs.LastTagReads.{one_more, skipped_on}
use Rattle.pgn_tokens.proofs.last_tags.last_tag.Goals as goal

pub loop-token-preserved : goal.loop-token-preserved
loop-token-preserved c =
    let next = rw c.in-Ok-Some.field-0-is at c.in-Ok-Some.ensures in
    let one = one_more c.args.text.now c.args.name.now c.args.at c.loop-token.last c.named_tag.result c.or-last.result
    c.loop-token.offset c.in-Ok-Some.token_end (token_seen c.in-Ok-Some.token) c.loop-token.invariant next.0 next.2
    (sym c.if-not-may_precede_tags.false ∙ c.may_precede_tags.ensures) c.named_tag.ensures c.or-last.ensures in
    skipped_on c.args.text.now c.args.name.now c.args.at c.or-last.result c.in-Ok-Some.token_end
    c.after_blanks-offset.result one c.after_blanks-offset.ensures.skips c.after_blanks-offset.ensures.within
