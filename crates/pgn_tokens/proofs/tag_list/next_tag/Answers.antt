-- By the invariant the tags from `offset` on are those from `at` on. If the token there is no tag, the loop continues
-- after it and what is skipped (TagsLeft.goes_on); if it is one, it is the first of these tags, and the others come
-- after it (found_tag).
use Rattle.std.proofs.Common.{sym, ◌∙◌, rules}
use Rattle.pgn_tokens.specs.Seen.{token_seen}
use Rattle.pgn_tokens.proofs.TagsLeft.{goes_on, found_tag}
use Rattle.pgn_tokens.proofs.tag_list.next_tag.Goals as goal

pub loop-token-preserved : goal.loop-token-preserved
loop-token-preserved c =
    let next = rw c.in-Ok-Some.field-0-is at c.in-Ok-Some.ensures in
    goes_on c.args.text.now c.args.at c.loop-token.offset c.in-Ok-Some.token_end c.after_blanks-offset.result
    (token_seen c.in-Ok-Some.token) c.tag_in.result c.loop-token.invariant next.0
    (sym c.if-not-may_precede_tags.false ∙ c.may_precede_tags.ensures) c.tag_in.ensures (search rules)
    c.after_blanks-offset.ensures.skips c.after_blanks-offset.ensures.within

pub returns-in-Some-clause-tag : goal.returns-in-Some-clause-tag
returns-in-Some-clause-tag c =
    let next = rw c.in-Ok-Some.field-0-is at c.in-Ok-Some.ensures in
    found_tag c.args.text.now c.args.at c.loop-token.offset c.in-Ok-Some.token_end c.after_blanks-offset.result
    (token_seen c.in-Ok-Some.token) c.tag_in.result c.loop-token.invariant next.0
    (sym c.if-not-may_precede_tags.false ∙ c.may_precede_tags.ensures) c.tag_in.ensures c.in-Some.tag (search rules)
    c.after_blanks-offset.ensures.skips
