-- Two exits. After a fault at what can't be read no end is looked for, and by the definition there is none
-- (UnreadFaults.none_after). Otherwise the end is what `game_end` found: its contract speaks of some split of the text
-- into tokens, and there is only one, that of the definition (split_read).
use Rattle.std.proofs.Common.{◌∙◌, ap, sym, length, None, if◌then◌else◌}
use Rattle.byte_devices.specs.Bytes.{after_byte_order_mark}
use Rattle.chess_pgn.specs.GameEnds.{game_end}
use Rattle.pgn_tokens.specs.Tokens.{tokens_from}
use Rattle.pgn_tokens.proofs.shared.Tokens.{split_read}
use Rattle.pgn_verifier.proofs.UnreadFaults.{none_after, none_next}
use Rattle.pgn_verifier.proofs.after_fault.next_at.Goals as goal

pub returns-then-stops_tokens-clause-value : goal.returns-then-stops_tokens-clause-value
returns-then-stops_tokens-clause-value c =
    let text = c.args.text.now in
    none_next c.args.goes_on (game_end (length text) (tokens_from text (after_byte_order_mark text c.args.at)))
    (none_after c.unreadable_games_have_no_end.ensures text c.args.at c.args.fault c.requires.judged
    (sym c.stops_tokens.ensures ∙ c.if-stops_tokens.true))

pub returns-clause-value : goal.returns-clause-value
returns-clause-value c =
    let (tokens, split, is) = c.game_end.ensures.end in
    let text = c.args.text.now in
    let first = after_byte_order_mark text c.args.at in
    is ∙ ap (game_end (length text)) (split_read text split)
    ∙ ap (λ b. if b then game_end (length text) (tokens_from text first) else None) (sym c.if-not-goes_on.false)
