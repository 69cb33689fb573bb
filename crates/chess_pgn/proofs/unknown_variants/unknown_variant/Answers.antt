-- The tag that `last_tag` finds, or none, is the last tag `Variant` of the text's split into tokens (the split is that
-- of read_split), at both exits.
use Rattle.pgn_tokens.specs.Tokens.{tokens_from}
use Rattle.byte_devices.specs.Bytes.{after_byte_order_mark}
use Rattle.pgn_tokens.proofs.shared.Tokens.{read_split}
use Rattle.std.proofs.Common.{rules}
use Rattle.chess_pgn.proofs.unknown_variants.unknown_variant.Goals as goal

pub returns-in_err-tag-clause-offset : goal.returns-in_err-tag-clause-offset
returns-in_err-tag-clause-offset c =
    let begin = after_byte_order_mark c.args.text.now c.args.at in
    (tokens_from c.args.text.now begin, read_split c.args.text.now begin, search rules)

pub returns-clause-offset : goal.returns-clause-offset
returns-clause-offset c =
    let begin = after_byte_order_mark c.args.text.now c.args.at in
    (tokens_from c.args.text.now begin, read_split c.args.text.now begin, search rules)
