-- The exit where faults are explained. The line and the column shown are the input's at the piece's first byte. The
-- code appends the parts one by one, so `++` groups them to the left, and the definition groups them to the right: the
-- text is the same.
use Rattle.std.proofs.Common.{append_assoc}
use Rattle.pgn_verifier.specs.Explanations.{explanation_line}
use Rattle.pgn_verifier.proofs.explanation.too_long_lines.Goals as goal

pub returns-then-explain : goal.returns-then-explain
unfolding explanation_line
returns-then-explain c input stands =
    let here = stands c.if-explain.true in
    rw (
      c.if-explain.true,
      here.line,
      here.column,
      c.push.ensures.items,
      c.append_unread.ensures.text,
      c.append.ensures.text,
      c.as_slice.ensures.value,
      c.shown.ensures.text,
      c.append_place.ensures.text,
      c.append_fault_line.ensures.text,
      c.new-lines.ensures,
    ) (simp append_assoc)
