-- Spaces before a field don't count. If nothing is left after them, the text has no field (clause none; no_fields of
-- CutFields); otherwise its first field goes up to the next space, and the rest has the others (clause found;
-- next_fields).
use Rattle.std.proofs.Common.{arith, ◌<◌, ◌≡◌, length}
use Rattle.std.proofs.lemmas.Bool.Decides.{nat_tests}
use Rattle.chess_fen.proofs.CutFields.{next_fields, no_fields}
use Rattle.chess_fen.proofs.fields.next_field.Goals as goal

pub returns-then-is_empty-clause-none : goal.returns-then-is_empty-clause-none
returns-then-is_empty-clause-none c =
    let none : length c.skip_spaces-text.result.now ≡ 0 = grind (arith, nat_tests) in
    no_fields c.args.text.now c.skip_spaces-text.result.now c.skip_spaces-text.ensures none

pub returns-else-is_empty-clause-found : goal.returns-else-is_empty-clause-found
returns-else-is_empty-clause-found c =
    let some : 0 < length c.skip_spaces-text.result.now = grind (arith, nat_tests) in
    next_fields c.args.text.now c.skip_spaces-text.result.now c.split_before_space.result.0.now
    c.split_before_space.result.1.now
    c.skip_spaces-text.ensures some c.split_before_space.ensures.front c.split_before_space.ensures.back
