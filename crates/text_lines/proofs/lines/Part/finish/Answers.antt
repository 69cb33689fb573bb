-- The line is that of the part's bytes: they are trimmed, or the first 64 of a line that is too long (line_kept of
-- LineParts).
use Rattle.std.proofs.Common.{take, ap, ◌∙◌}
use Rattle.text_lines.specs.Lines.{trimmed}
use Rattle.text_lines.proofs.LineParts.{line_kept}
use Rattle.text_lines.proofs.lines.Part.finish.Goals as goal

pub returns-clause-line : goal.returns-clause-line
returns-clause-line g c = line_kept g.row.N c.args.is_ended c.self.inside.is_too_long c.self.inside.bytes.items _ _
    c.self.invariant.0 c.self.invariant.1 c.self.view_is
    (λ h. c.put_text.ensures.long h ∙ ap (take 64) c.as_slice.ensures.value)
    (λ h. c.put_text.ensures.short h ∙ ap trimmed c.as_slice.ensures.value)
