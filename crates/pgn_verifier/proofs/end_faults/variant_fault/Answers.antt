-- The fault, or that there is none, is the definition's: the contract of `unknown_variant` speaks of some split of the
-- text into tokens, and there is only one, that of the definition (split_read).
use Rattle.std.proofs.Common.{◌≡◌, length, ap, ◌∙◌, arith}
use Rattle.std.proofs.lemmas.Grind.{common_steps}
use Rattle.chess_pgn.specs.UnknownVariants.{unknown_variant_in}
use Rattle.pgn_tokens.specs.Tokens.{tokens_from}
use Rattle.byte_devices.specs.Bytes.{after_byte_order_mark}
use Rattle.pgn_tokens.proofs.shared.Tokens.{split_read}
use Rattle.pgn_verifier.proofs.end_faults.variant_fault.Goals as goal

pub returns-in_err-offset-clause-fault : goal.returns-in_err-offset-clause-fault
returns-in_err-offset-clause-fault c =
    let (tokens, split, is) = c.unknown_variant.ensures.offset in
    let text = c.args.text.now in
    let offset : c.unknown_variant.result
    ≡ unknown_variant_in (length text) (tokens_from text (after_byte_order_mark text c.args.at)) =
    is ∙ ap (unknown_variant_in (length text)) (split_read text split) in
    grind (arith, common_steps, offset)

pub returns-clause-fault : goal.returns-clause-fault
returns-clause-fault c =
    let (tokens, split, is) = c.unknown_variant.ensures.offset in
    let text = c.args.text.now in
    let offset : c.unknown_variant.result
    ≡ unknown_variant_in (length text) (tokens_from text (after_byte_order_mark text c.args.at)) =
    is ∙ ap (unknown_variant_in (length text)) (split_read text split) in
    grind (arith, common_steps, offset)
