-- The line of a game without a fault is the definition's. The code appends its parts one by one, so `++` groups them to
-- the left, and the definition groups them to the right: the text is the same.
use Rattle.std.proofs.Common.{append_assoc}
use Rattle.pgn_verifier.specs.Reports.{report_line}
use Rattle.pgn_verifier.proofs.report.game_line.Goals as goal

pub returns : goal.returns
unfolding report_line
returns c =
    rw (
      c.push.ensures.items,
      c.append_span.ensures.text,
      c.append_termination.ensures.text,
      c.append-4.ensures.text,
      c.text.ensures.value,
      c.append-3.ensures.text,
      c.append_number-2.ensures.text,
      c.append-2.ensures.text,
      c.append_number.ensures.text,
      c.append.ensures.text,
      c.new-line.ensures,
    ) (simp append_assoc)
