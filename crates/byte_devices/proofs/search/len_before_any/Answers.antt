-- A block without a set bit is passed (Blocks.passed); in the first other one the lowest bit is that of the first byte
-- (Blocks.found).
use Rattle.std.proofs.Common.{arith}
use Rattle.byte_devices.proofs.Blocks.{is_any, passed, found, few_before}
use Rattle.byte_devices.proofs.search.len_before_any.Goals as goal

pub loop-offset-preserved : goal.loop-offset-preserved
loop-offset-preserved c =
    let l = c.loop-offset in
    let room = c.loop-offset-test.true in
    let on = passed (is_any c.args.a c.args.b c.args.c) c.args.bytes.now l.offset 16
    (omega (arith, l.invariant.within, room)) c.mask_of_block-mask.result c.mask_of_block-mask.ensures
    c.if-mask-ne0.false in
    record {
      within = omega (arith, l.invariant.within, room);
      none = omega (arith, on, l.invariant.none);
    }

pub returns-then-mask-ne0-clause-count : goal.returns-then-mask-ne0-clause-count
returns-then-mask-ne0-clause-count c =
    let l = c.loop-offset in
    let at = found (is_any c.args.a c.args.b c.args.c) c.args.bytes.now l.offset 16
    (omega (arith, l.invariant.within, c.loop-offset-test.true)) c.mask_of_block-mask.result
    c.mask_of_block-mask.ensures c.if-mask-ne0.true (omega arith) in
    omega (arith, at, l.invariant.none)

pub returns-then-mask-ne0-clause-within : goal.returns-then-mask-ne0-clause-within
returns-then-mask-ne0-clause-within c =
    few_before (is_any c.args.a c.args.b c.args.c) c.args.bytes.now _ (returns-then-mask-ne0-clause-count c)

pub returns-clause-count : goal.returns-clause-count
returns-clause-count c = let l = c.loop-offset in omega (arith, c.offset_by_bytes.ensures, l.invariant.none)

pub returns-clause-within : goal.returns-clause-within
returns-clause-within c = few_before (is_any c.args.a c.args.b c.args.c) c.args.bytes.now _ (returns-clause-count c)
