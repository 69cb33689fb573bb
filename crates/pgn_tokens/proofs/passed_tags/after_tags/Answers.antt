-- A token that may come among tags keeps the invariant (PassedTags.passes_on). A token that can't ends the tags
-- (PassedTags.passed_all), and so do the text's end (PassedTags.passed_to_end) and what can't be read
-- (PassedTags.no_tag).
use Rattle.std.proofs.Common.{sym, ◌∙◌, refl}
use Rattle.pgn_tokens.specs.Seen.{token_seen}
use Rattle.pgn_tokens.proofs.PassedTags.{passes_on, passed_all, passed_to_end, no_tag}
use Rattle.pgn_tokens.proofs.passed_tags.after_tags.Goals as goal

pub loop-token-init : goal.loop-token-init
loop-token-init c = record { offset = c.requires; whole = refl }

pub loop-token-preserved : goal.loop-token-preserved
loop-token-preserved c =
    let next = rw c.in-Ok-Some.field-0-is at c.in-Ok-Some.ensures in
    passes_on c.args.text.now c.args.at c.loop-token.offset c.in-Ok-Some.token_end (token_seen c.in-Ok-Some.token)
    c.loop-token.invariant next.0 next.2 (sym c.if-not-may_precede_tags.false ∙ c.may_precede_tags.ensures)

pub returns-then-not-may_precede_tags-clause-passed : goal.returns-then-not-may_precede_tags-clause-passed
returns-then-not-may_precede_tags-clause-passed c =
    let next = rw c.in-Ok-Some.field-0-is at c.in-Ok-Some.ensures in
    passed_all c.args.text.now c.args.at c.loop-token.offset (token_seen c.in-Ok-Some.token) _ c.loop-token.invariant
    next.0 (sym c.may_precede_tags.ensures ∙ c.if-not-may_precede_tags.true)

pub returns-in-Ok-None-clause-passed : goal.returns-in-Ok-None-clause-passed
returns-in-Ok-None-clause-passed c =
    passed_to_end c.args.text.now c.args.at c.loop-token.offset c.loop-token.invariant
    (rw c.in-Ok-None.field-0-is at c.in-Ok-None.ensures)

pub returns-in-Err-clause-passed : goal.returns-in-Err-clause-passed
returns-in-Err-clause-passed c =
    passed_all c.args.text.now c.args.at c.loop-token.offset _ _ c.loop-token.invariant c.in-Err.ensures
    (no_tag c.in-Err.field-0)
