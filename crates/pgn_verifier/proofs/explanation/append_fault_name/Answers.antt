-- The name of a fault in a variation is the definition's: its two parts are appended one after the other, so only the
-- grouping of `++` differs.
use Rattle.std.proofs.Common.{append_assoc}
use Rattle.pgn_verifier.proofs.explanation.append_fault_name.Goals as goal

pub returns-in-InVariation-clause-text : goal.returns-in-InVariation-clause-text
returns-in-InVariation-clause-text c =
    rw (
      c.in-InVariation.is,
      c.append-in-InVariation-2.ensures.text,
      c.append-in-InVariation.ensures.text,
      c.pgn_fault_name-in-InVariation.ensures.value,
    ) (simp append_assoc)
