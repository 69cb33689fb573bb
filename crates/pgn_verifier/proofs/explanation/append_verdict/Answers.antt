-- What is appended for a verdict, such as ` | 0-1 {Black mates}`, is the definition's. The code appends its parts one
-- by one, so `++` groups them to the left, and the definition groups them to the right: the text is the same.
use Rattle.std.proofs.Common.{append_assoc}
use Rattle.chess_game.specs.Ends.{result_text}
use Rattle.pgn_verifier.proofs.explanation.append_verdict.Goals as goal

pub returns-in-Some-clause-text : goal.returns-in-Some-clause-text
unfolding result_text
returns-in-Some-clause-text c =
    rw (
      c.in-Some.is,
      c.append-in-Some-4.ensures.text,
      c.append-in-Some-3.ensures.text,
      c.comment.ensures.value,
      c.append-in-Some-2.ensures.text,
      c.append-in-Some.ensures.text,
      c.text.ensures.value,
      c.outcome.ensures,
      c.append.ensures.text,
    ) (simp append_assoc)
