-- The loop's invariant: reading on from the offset reached gives the same game as reading from `at`. It holds at the
-- start (GameReads.first_normal), after each token among tags (more_normal), and after the white space and dots that
-- are skipped next (normal_on). `apply_token` asks that such a token is in the text, and no move that the game plays
-- (LeftTokens.tags_left).
use Rattle.std.proofs.Common.{sym, ◌∙◌}
use Rattle.pgn_tokens.specs.Seen.{found_seen, token_seen}
use Rattle.chess_pgn.proofs.{GameReads.first_normal, GameReads.more_normal, GameReads.normal_on, LeftTokens.tags_left}
use Rattle.pgn_tokens.proofs.shared.Tokens.{token_within}
use Rattle.chess_pgn.proofs.read.read_normal_tags.Goals as goal

pub loop-next-init : goal.loop-next-init
loop-next-init g c =
    first_normal c.args.game.now c.restart.new.self c.initial.result c.none-progress.result c.args.text.now c.args.at
    c.restart.ensures c.initial.ensures c.none-progress.ensures c.requires

pub apply_token-requires-clause-within : goal.apply_token-requires-clause-within
apply_token-requires-clause-within g c =
    token_within c.args.text.now c.loop-next.offset (token_seen c.in-Some.token) _
    c.loop-next.invariant.says.offset (rw c.in-Some.is at c.in-Ok.ensures).0

pub apply_token-requires-clause-left : goal.apply_token-requires-clause-left
apply_token-requires-clause-left g c =
    tags_left c.loop-next.game (token_seen c.in-Some.token)
    (sym c.may_precede_tags.ensures ∙ c.if-not-may_precede_tags.false)

pub loop-next-preserved : goal.loop-next-preserved
loop-next-preserved g c =
    let next = rw c.in-Some.is at c.in-Ok.ensures in
    let step_is = rw c.in-Ok-On.field-0-is at c.in-Ok-On.ensures.step in
    let more = more_normal c.args.game.now.limit c.args.text.now c.args.at c.loop-next.game c.apply_token.new.game
    c.loop-next.progress c.in-Ok-On.further c.loop-next.offset c.in-Some.token_end (token_seen c.in-Some.token)
    (found_seen c.named_tag.result) c.loop-next.invariant next.0 next.1 next.2
    (sym c.if-not-may_precede_tags.false ∙ c.may_precede_tags.ensures) c.named_tag.ensures c.in-Normal.ensures
    c.in-Ok-On.ensures.limit step_is in
    normal_on c.args.game.now.limit c.args.text.now c.args.at c.apply_token.new.game c.in-Ok-On.further
    c.in-Some.token_end
    c.after_blanks-offset.result more c.after_blanks-offset.ensures.skips c.after_blanks-offset.ensures.forward
    c.after_blanks-offset.ensures.within
