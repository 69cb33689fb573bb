-- Each call appends its part of the text, so the answer is these parts one after another, and `state_text` is made of
-- the same parts in the same order.
use Rattle.std.proofs.Common.{append_assoc}
use Rattle.chess_cecp.specs.Declaring.{state_text}
use Rattle.chess_cecp.proofs.answer.write_state.Goals as goal

pub returns : goal.returns
unfolding state_text
returns g c =
    rw (
      c.push.ensures.items,
      c.write_declared_text.ensures.text,
      c.append-4.ensures.text,
      c.write_verdict_text.ensures.text,
      c.append-3.ensures.text,
      c.append-2.ensures.text,
      c.append.ensures.text,
      c.write_number-3.ensures.text,
      c.write_number-2.ensures.text,
      c.write_number.ensures.text,
      c.declared.ensures,
      c.verdict.ensures,
      c.claims_text.ensures.value,
      c.claims.ensures,
      c.from-2.ensures,
      c.setup.ensures.value,
      c.position.ensures.value,
      c.from.ensures,
      c.repetitions.ensures,
      c.ply.ensures,
      c.requires,
    )
    (simp append_assoc)
