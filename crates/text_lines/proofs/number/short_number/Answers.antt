-- Of at most nine digits those before the last make a number less than 10 ^ 8, so no step overflows a `u32`
-- (FewDigits.small_number). The whole number is that of the definition (FewDigits.number_is), and is less than 10 ^
-- most (FewDigits.number_bound).
use Rattle.std.proofs.Common.{arith, ◌<◌, ◌≤◌, ◌^◌, length}
use Rattle.std.proofs.lemmas.Bool.Decides.{nat_tests}
use Rattle.text_lines.proofs.FewDigits.{small_number, number_bound, number_is}
use Rattle.text_lines.proofs.number.short_number.Goals as goal

pub overflow_mul-number : goal.overflow_mul-number
overflow_mul-number c = let s : c.loop-byte.number < 10 ^ 8 = small_number _ _ (length c.args.text.now) c.args.most
    c.loop-byte.invariant.small c.loop-byte-test.true c.requires c.if-text-most.false in omega arith

pub overflow_add-number : goal.overflow_add-number
overflow_add-number c = let s : c.loop-byte.number < 10 ^ 8 = small_number _ _ (length c.args.text.now) c.args.most
    c.loop-byte.invariant.small c.loop-byte-test.true c.requires c.if-text-most.false in omega arith

pub returns-clause-value : goal.returns-clause-value
returns-clause-value c =
    let some : 0 < length c.args.text.now = grind (arith, nat_tests, c.if-is_empty.false, c.is_empty.ensures) in
    number_is c.args.most c.loop-byte.byte-index c.loop-byte.number c.args.text.now some
    (omega (arith, c.if-text-most.false)) c.loop-byte-test.false c.loop-byte.invariant.rest
    c.loop-byte.invariant.digits

pub returns-clause-small : goal.returns-clause-small
returns-clause-small c =
    let few : c.loop-byte.byte-index ≤ c.args.most =
    omega (arith, c.loop-byte.auto.byte-index-end, c.if-text-most.false) in
    number_bound c.loop-byte.number c.loop-byte.byte-index c.args.most c.loop-byte.invariant.small few
