-- The fault is in the text (FaultsInText.tag_within), and is the definition's: the contract of `result_tag` speaks of
-- some list of tokens that the text is split into, and there is only one (split_read).
use Rattle.std.proofs.Common.{◌≡◌, length, ap, sym, subst, ◌∙◌, arith}
use Rattle.std.proofs.lemmas.Grind.{common_steps}
use Rattle.chess_pgn.specs.ResultTags.{result_tag_of}
use Rattle.pgn_tokens.specs.Tokens.{tokens_from}
use Rattle.byte_devices.specs.Bytes.{after_byte_order_mark}
use Rattle.pgn_tokens.proofs.shared.Tokens.{split_read}
use Rattle.pgn_verifier.proofs.FaultsInText.{InText, tag_within}
use Rattle.pgn_verifier.proofs.contradiction.result_fault.Goals as goal

pub returns-clause-within : goal.returns-clause-within
returns-clause-within c =
    subst (InText (length c.args.text.now)) (sym c.result_differs.ensures)
    (tag_within (length c.args.text.now) c.result_tag.result c.args.end c.result_tag.ensures.within)

pub returns-clause-fault : goal.returns-clause-fault
returns-clause-fault c =
    let (tokens, split, is) = c.result_tag.ensures.tag in
    let text = c.args.text.now in
    let tag : c.result_tag.result
    ≡ result_tag_of (length text) (tokens_from text (after_byte_order_mark text c.args.at)) =
    is ∙ ap (result_tag_of (length text)) (split_read text split) in
    grind (arith, common_steps, tag)
