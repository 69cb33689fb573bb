-- The text that explains a fault (the wrong part, the position, the reason) is the definition's. The code appends its
-- parts one by one, so `++` groups them to the left, and the definition groups them to the right: the text is the same.
use Rattle.std.proofs.Common.{append_assoc}
use Rattle.pgn_verifier.proofs.explanation.append_explanation.Goals as goal

pub returns-clause-text : goal.returns-clause-text
returns-clause-text g c =
    rw (
      c.append_reason.ensures.text,
      c.ending.ensures,
      c.append_position.ensures.text,
      c.append.ensures.text,
      c.as_slice.ensures.value,
      c.shown_part.ensures,
    ) (simp append_assoc)
