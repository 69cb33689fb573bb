-- The clause `end`: what `end_after_tags` returns is the game's end by the text's split into tokens (read_split).
-- `further` and `within`: a game's end is after `at` and in the text (from GameEnds.end_in_text).
use Rattle.byte_devices.specs.Bytes.{after_byte_order_mark}
use Rattle.pgn_tokens.specs.Tokens.{tokens_from}
use Rattle.chess_pgn.proofs.GameEnds.{is_later, is_within}
use Rattle.pgn_tokens.proofs.shared.Tokens.{read_split}
use Rattle.chess_pgn.proofs.game_ends.game_end.Goals as goal

pub returns-clause-end : goal.returns-clause-end
returns-clause-end c =
    let begin = after_byte_order_mark c.args.text.now c.args.at in (
      tokens_from c.args.text.now begin,
      read_split c.args.text.now begin,
      c.end_after_tags.ensures begin (rw c.after_byte_order_mark.ensures.offset at c.after_tags.ensures.passed),
    )

pub returns-clause-further : goal.returns-clause-further
returns-clause-further c =
    let begin = after_byte_order_mark c.args.text.now c.args.at in
    is_later c.args.text.now c.args.at c.end_after_tags.result c.requires
    (c.end_after_tags.ensures begin (rw c.after_byte_order_mark.ensures.offset at c.after_tags.ensures.passed))

pub returns-clause-within : goal.returns-clause-within
returns-clause-within c =
    let begin = after_byte_order_mark c.args.text.now c.args.at in
    is_within c.args.text.now c.args.at c.end_after_tags.result c.requires
    (c.end_after_tags.ensures begin (rw c.after_byte_order_mark.ensures.offset at c.after_tags.ensures.passed))
