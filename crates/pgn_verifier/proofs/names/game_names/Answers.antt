-- The end of a line that names a game by its players, event and date is the definition's. The code appends its parts
-- one by one, so `++` groups them to the left, and the definition groups them to the right: the text is the same.
use Rattle.std.proofs.Common.{append_assoc}
use Rattle.pgn_verifier.proofs.names.game_names.Goals as goal

pub returns : goal.returns
returns c =
    rw (
      c.append_tag-4.ensures.text,
      c.append-4.ensures.text,
      c.append_tag-3.ensures.text,
      c.append-3.ensures.text,
      c.append_tag-2.ensures.text,
      c.append-2.ensures.text,
      c.append_tag.ensures.text,
      c.append.ensures.text,
      c.new-names.ensures,
    ) (simp append_assoc)
