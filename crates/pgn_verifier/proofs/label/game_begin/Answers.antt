-- The code skips white space in a slice of the text, from the byte after a byte order mark on. That slice is the `drop`
-- of the definition.
use Rattle.std.proofs.Common.{◌+◌, drop, ap, ◌∙◌}
use Rattle.std.specs.List.{prefix_len}
use Rattle.pgn_tokens.specs.Tokens.{is_white_space}
use Rattle.byte_devices.proofs.shared.Devices.{rest_is}
use Rattle.pgn_verifier.proofs.label.game_begin.Goals as goal

pub returns-clause-value : goal.returns-clause-value
returns-clause-value c =
    let first = c.after_byte_order_mark-first.result in
    let text = c.args.text.now in
    ap (λ n. first + n) (c.blanks_len.ensures.value ∙ ap (prefix_len is_white_space) (rest_is first text))
    ∙ ap (λ k. k + prefix_len is_white_space (drop k text)) c.after_byte_order_mark-first.ensures.offset
