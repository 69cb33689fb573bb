-- The tag found, or that there is none, is by the tokens that are read, and these are a split of the text
-- (Splits.read_split), as the contract asks for.
use Rattle.pgn_tokens.specs.Tokens.{tokens_from}
use Rattle.byte_devices.specs.Bytes.{after_byte_order_mark}
use Rattle.pgn_tokens.proofs.Splits.{read_split}
use Rattle.std.proofs.Common.{rules}
use Rattle.pgn_tokens.proofs.tag_list.tag_text.Goals as goal

pub returns-in_err-tag : goal.returns-in_err-tag
returns-in_err-tag c =
    let begin = after_byte_order_mark c.args.text.now c.args.at in
    (tokens_from c.args.text.now begin, read_split c.args.text.now begin, search rules)

pub returns : goal.returns
returns c =
    let begin = after_byte_order_mark c.args.text.now c.args.at in
    (tokens_from c.args.text.now begin, read_split c.args.text.now begin, search rules)
