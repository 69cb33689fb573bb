-- After `add` the same lines follow as with the bytes given, whatever comes. A `\n` comes next, so the line that it
-- ends is the same too (LineEnds.same_line).
use Rattle.std.proofs.Common.{sym, ◌++◌, ◌∙◌}
use Rattle.text_lines.proofs.LineEnds.{same_line}
use Rattle.text_lines.proofs.lines.Part.finish_with.Goals as goal

pub returns-else-is_empty-clause-line : goal.returns-else-is_empty-clause-line
returns-else-is_empty-clause-line g c = c.finish.ensures.line
    ∙ sym (same_line g.row.N (c.args.self.now ++ c.args.bytes.now) c.add.new.self c.add.ensures)
