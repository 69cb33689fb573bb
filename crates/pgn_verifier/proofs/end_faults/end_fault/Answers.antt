-- That the fault is in the text: it is the first of two, one in a variation and one of the others at the game's end,
-- and both are in the text (FaultsInText.first_within).
use Rattle.std.proofs.Common.{length, sym, subst}
use Rattle.pgn_verifier.proofs.FaultsInText.{InText, first_within}
use Rattle.pgn_verifier.proofs.end_faults.end_fault.Goals as goal

pub returns-clause-within : goal.returns-clause-within
returns-clause-within c =
    subst (InText (length c.args.text.now)) (sym c.or.ensures)
    (first_within (length c.args.text.now) c.variation_fault.result c.fault_but_variations-found.result
    c.variation_fault.ensures.within c.fault_but_variations-found.ensures.within)
