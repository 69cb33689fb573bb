-- Of a line of more than N bytes `put_text` is given the first N. The bytes shown of it, at most 64, are among these,
-- so the line is the definition's (LineParts.line_put).
use Rattle.std.proofs.Common.{true, arith, ap}
use Rattle.text_lines.proofs.LineParts.{line_put}
use Rattle.text_lines.proofs.lines.put_line.Goals as goal
use Rattle.text_lines.proofs.lines.put_line.Goals.{then-is_too_long, else-is_too_long}

pub returns : goal.returns
returns g c = line_put g.row.N true c.args.bytes.now c.if-is_too_long.kept.now _ c.put_text.ensures.long
    c.put_text.ensures.short
    (elim c.if-is_too_long.branch [
      | then-is_too_long w ↦ λ h. ap (λ r. r.now) w.kept-is
      | else-is_too_long w ↦ λ h. absurd (omega (arith, h, w.if-is_too_long.false))
    ])
    (elim c.if-is_too_long.branch [
      | then-is_too_long w ↦ λ h. absurd (omega (arith, h, w.if-is_too_long.true))
      | else-is_too_long w ↦ λ h. ap (λ r. r.now) w.kept-is
    ])
