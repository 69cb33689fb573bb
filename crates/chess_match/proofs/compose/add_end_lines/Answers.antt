-- The bytes of the end are those of the last move, if the side was not yet sent it (`add_unsent`), and of `result ..`
-- and `quit` (`add_end`).
use Rattle.std.proofs.Common.{append_assoc}
use Rattle.chess_match.proofs.shared.Lines.{bytes_of-append}
use Rattle.chess_match.proofs.compose.add_end_lines.Goals as goal

pub returns-clause-text : goal.returns-clause-text
returns-clause-text c r played m s =
    rw (
      bytes_of-append,
      c.add_end.ensures.text,
      c.add_unsent.ensures.text r played m s,
      c.outcome.ensures,
      c.comment.ensures.value,
    ) (simp append_assoc)
