-- Clause text: the fields and the spaces between them were appended one by one; the definition joins them in another
-- grouping, which is the same text (append_assoc).
use Rattle.std.proofs.Common.{append_assoc}
use Rattle.chess_fen.proofs.writing.write_fen.Goals as goal

pub returns-clause-text : goal.returns-clause-text
returns-clause-text c =
    rw (
      c.write_number-2.ensures.text,
      c.push-5.ensures.items,
      c.write_number.ensures.text,
      c.push-4.ensures.items,
      c.write_target.ensures.text,
      c.push-3.ensures.items,
      c.write_rights.ensures.text,
      c.push-2.ensures.items,
      c.write_side.ensures.text,
      c.push.ensures.items,
      c.write_placement.ensures.text,
      c.new-out.ensures,
      c.setup-setup.ensures.value,
    )
    (simp append_assoc)
