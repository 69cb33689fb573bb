-- That the fault is in the text: it is the first of two, an unknown variant and what contradicts the result, and both
-- are in the text (FaultsInText.first_within).
use Rattle.std.proofs.Common.{length, sym, subst}
use Rattle.pgn_verifier.proofs.FaultsInText.{InText, first_within}
use Rattle.pgn_verifier.proofs.end_faults.fault_but_variations.Goals as goal

pub returns-clause-within : goal.returns-clause-within
returns-clause-within c =
    subst (InText (length c.args.text.now)) (sym c.or.ensures)
    (first_within (length c.args.text.now) c.variant_fault-of_variant.result c.contradiction.result
    c.variant_fault-of_variant.ensures.within c.contradiction.ensures.within)
