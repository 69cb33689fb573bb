-- Variations are read in the game's text, up to its end, so a fault there is in the whole text
-- (FaultsInText.err_weaker). If that text ends before its first byte, or has no variation, there is none
-- (FaultsInText.none_without_bytes, none_without_variation).
use Rattle.std.proofs.Common.{length, take, sym, ◌∙◌, arith}
use Rattle.pgn_verifier.proofs.FaultsInText.{err_weaker, none_without_bytes, none_without_variation, take_few}
use Rattle.pgn_verifier.proofs.end_faults.found_in_variations.Goals as goal

pub returns-clause-within : goal.returns-clause-within
returns-clause-within c =
    err_weaker (length (take c.args.end.offset c.args.text.now)) (length c.args.text.now) c.read_variations.result
    (take_few c.args.end.offset c.args.text.now) c.read_variations.ensures.within

pub returns-then-end-first-clause-fault : goal.returns-then-end-first-clause-fault
returns-then-end-first-clause-fault c =
    let first = c.after_byte_order_mark-first.ensures.offset in
    sym (none_without_bytes c.args.text.now c.args.at c.args.start.now c.args.end (omega (arith, first)))

pub returns-then-not-has_variation-clause-fault : goal.returns-then-not-has_variation-clause-fault
returns-then-not-has_variation-clause-fault c =
    sym (none_without_variation c.args.text.now c.args.at c.args.start.now c.args.end
    c.after_byte_order_mark-first.result c.after_byte_order_mark-first.ensures.offset
    (sym c.has_variation.ensures ∙ c.if-not-has_variation.true))
