-- The definition turns on the last byte alone, as the code does: a byte 13 goes (Trims.return_then), any other stays
-- (Trims.return_else), and a text with no byte stays empty.
use Rattle.std.proofs.Common.{arith, ap, sym, ◌∙◌}
use Rattle.text_lines.specs.Lines.{without_return}
use Rattle.std.proofs.lemmas.List.{nil_from_length}
use Rattle.text_lines.proofs.Trims.{return_then, return_else}
use Rattle.text_lines.proofs.trim.cut_return.Goals as goal
use Rattle.text_lines.proofs.trim.cut_return.Goals.{else-not-is_empty-via-then-not-is_empty+else-text-eq13, else-not-is_empty-via-else-not-is_empty}

pub returns-then-text-eq13 : goal.returns-then-text-eq13
returns-then-text-eq13 c = return_then c.args.text.now c.if-text-eq13.true

pub returns-else-not-is_empty : goal.returns-else-not-is_empty
returns-else-not-is_empty c = elim c.else-not-is_empty.branch [
  | else-not-is_empty-via-then-not-is_empty+else-text-eq13 w ↦
      return_else c.args.text.now w.if-text-eq13.false
  | else-not-is_empty-via-else-not-is_empty w ↦ let h = w.if-not-is_empty.ensures in
      let e = nil_from_length c.args.text.now (grind arith) in e ∙ sym (ap without_return e)
]
