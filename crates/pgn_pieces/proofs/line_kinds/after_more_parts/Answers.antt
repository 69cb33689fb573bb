-- After each part, such as a tag or a comment, one fewer may be passed over (Parts.one_fewer). The text stays where no
-- part begins, or begins but isn't closed (Parts.stays), and after the last that may be passed (stays_without_more).
use Rattle.std.proofs.Common.{◌+◌, ◌-◌, refl, sym, ◌∙◌, arith}
use Rattle.pgn_pieces.proofs.Parts.{one_fewer, stays, stays_without_more}
use Rattle.pgn_pieces.proofs.line_kinds.after_more_parts.Goals as goal

pub loop-passed-init : goal.loop-passed-init
loop-passed-init c = refl

pub returns-in_default : goal.returns-in_default
returns-in_default c =
    sym (stays (256 - c.loop-passed.passed) c.loop-passed.rest.now c.in_default.ensures) ∙ c.loop-passed.invariant

pub loop-passed-preserved : goal.loop-passed-preserved
loop-passed-preserved c =
    let before = c.loop-passed-test.true in
    one_fewer (256 - c.loop-passed.passed) (256 - (c.loop-passed.passed + 1)) c.loop-passed.rest.now c.in-Some.next.now
    (omega (arith, before)) c.in-Some.ensures
    ∙ c.loop-passed.invariant

pub returns : goal.returns
returns c =
    let end = c.loop-passed-test.false in
    sym (stays_without_more (256 - c.loop-passed.passed) c.loop-passed.rest.now (omega (arith, end)))
    ∙ c.loop-passed.invariant
