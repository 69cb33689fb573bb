-- The line of a fault, with its span and names, is the definition's. The code appends its parts one by one, so `++`
-- groups them to the left, and the definition groups them to the right: the text is the same.
use Rattle.std.proofs.Common.{append_assoc}
use Rattle.pgn_verifier.specs.Reports.{report_line}
use Rattle.pgn_verifier.proofs.explanation.append_fault_line.Goals as goal

pub returns-clause-text : goal.returns-clause-text
unfolding report_line
returns-clause-text c =
    rw (
      c.push.ensures.items,
      c.append-4.ensures.text,
      c.as_slice.ensures.value,
      c.append_span.ensures.text,
      c.append_number-2.ensures.text,
      c.append-3.ensures.text,
      c.append_fault_name.ensures.text,
      c.append-2.ensures.text,
      c.append_number.ensures.text,
      c.append.ensures.text,
    ) (simp append_assoc)
