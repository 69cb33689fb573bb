-- `next` returns the line that `read_line` read, or `None` if it read none; so the clause is that of `read_line`, for
-- `Ok(true)` and for `Ok(false)`.
use Rattle.text_lines.proofs.lines.Lines.next.Goals as goal

pub returns-in-Ok-true : goal.returns-in-Ok-true
returns-in-Ok-true g c = rw c.in-Ok-true.field-0-test at c.in-Ok-true.ensures.next

pub returns-in-Ok-false : goal.returns-in-Ok-false
returns-in-Ok-false g c = rw c.in-Ok-false.field-0-test at c.in-Ok-false.ensures.next
