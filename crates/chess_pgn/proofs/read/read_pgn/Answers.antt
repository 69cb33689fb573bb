-- Reading on from here, with the game read so far, gives what is read of the whole game (GameReads.Reads). The step of
-- a token keeps this (more), and so do what is skipped after it (alike) and the words played then (further), after
-- which the next token is no move to be played (ReadsWords, the invariant). At the exits: a fault leaves nothing
-- declared (bare_at_fault), and what was read is what any split of the text says (GamesByTags.as_said).
use Rattle.pgn_tokens.specs.Seen.{token_seen, fault_seen}
use Rattle.chess_pgn.specs.{declared.read.PgnFaultKind.TheVariants.NoResult, ties.GameSteps.so_far, ties.GameSteps.StopsAt}
use Rattle.pgn_tokens.proofs.shared.Tokens.{token_within}
use Rattle.chess_pgn.proofs.GamesByTags.{as_said}
use Rattle.chess_pgn.proofs.GameReads.{read_from, more, alike, further, bare_at_fault}
use Rattle.std.proofs.Common.{true, length, subst, Some, None, Ok, Err, rules}
use Rattle.chess_pgn.proofs.read.read_pgn.Goals as goal

pub apply_token-requires-clause-within : goal.apply_token-requires-clause-within
apply_token-requires-clause-within g c =
    token_within c.args.text.now c.loop-token.offset (token_seen c.in-Ok-Some.token) _ c.loop-token.invariant.offset
    (rw c.in-Ok-Some.field-0-is at c.in-Ok-Some.ensures).0

pub apply_token-requires-clause-left : goal.apply_token-requires-clause-left
apply_token-requires-clause-left g c =
    subst (StopsAt c.loop-token.game) (rw c.in-Ok-Some.field-0-is at c.in-Ok-Some.ensures).0 c.loop-token.invariant.left

pub loop-token-init : goal.loop-token-init
loop-token-init g c =
    let mark = c.after_byte_order_mark.ensures in
    let begun = read_from c.args.game.now.limit c.begin_game-tags_end.new.game c.begin_game-tags_end.result.0 c.args.text.now c.args.at
    c.after_byte_order_mark.result c.begin_game-tags_end.result.1 c.begin_game-tags_end.ensures.read c.begin_game-tags_end.ensures.limit
    mark.offset mark.forward in
    further c.args.game.now.limit c.args.text.now c.args.at c.begin_game-tags_end.new.game c.play_words-moves_end.new.game
    c.begin_game-tags_end.result.0 c.play_words-moves_end.new.progress c.begin_game-tags_end.result.1 c.play_words-moves_end.result begun
    c.play_words-moves_end.ensures.taken c.play_words-moves_end.ensures.left

pub loop-token-preserved : goal.loop-token-preserved
loop-token-preserved g c =
    let next = rw c.in-Ok-Some.field-0-is at c.in-Ok-Some.ensures in
    let step_is = rw c.in-On.is at c.in_ok-further-in-Ok-Some.ensures.step in
    let before = more c.args.game.now.limit c.args.text.now c.args.at c.loop-token.game c.apply_token.new.game
    c.loop-token.progress c.in-On.further c.loop-token.offset c.in-Ok-Some.token_end (token_seen c.in-Ok-Some.token)
    c.loop-token.invariant next.0 next.1 next.2 c.apply_token.ensures.limit step_is in
    let skipped = alike c.args.game.now.limit c.args.text.now c.args.at c.apply_token.new.game c.in-On.further
    c.in-Ok-Some.token_end c.after_skipped.result before c.after_skipped.ensures.alike c.after_skipped.ensures.forward
    c.after_skipped.ensures.within in
    further c.args.game.now.limit c.args.text.now c.args.at c.apply_token.new.game c.play_words-offset.new.game
    c.in-On.further c.play_words-offset.new.progress c.after_skipped.result c.play_words-offset.result skipped
    c.play_words-offset.ensures.taken c.play_words-offset.ensures.left

pub reported_fault-requires-clause-within : goal.reported_fault-requires-clause-within
reported_fault-requires-clause-within g c =
    token_within c.args.text.now c.loop-token.offset (fault_seen c.in-Err.fault) _ c.loop-token.invariant.offset
    c.in-Err.ensures

pub returns-in_err-further-in-Ok-Some-clause-undeclared : goal.returns-in_err-further-in-Ok-Some-clause-undeclared
returns-in_err-further-in-Ok-Some-clause-undeclared g c =
    bare_at_fault c.loop-token.game.limit (length c.args.text.now)
    (so_far c.loop-token.game.state c.loop-token.progress) _ (token_seen c.in-Ok-Some.token)
    c.apply_token.new.game.state c.in_err-further-in-Ok-Some.field-0.0 c.from_residual.result
    (token_within c.args.text.now c.loop-token.offset (token_seen c.in-Ok-Some.token) _ c.loop-token.invariant.offset
    (rw c.in-Ok-Some.field-0-is at c.in-Ok-Some.ensures).0)
    c.loop-token.invariant.undeclared
    c.in_err-further-in-Ok-Some.ensures.step

-- ---- what was read is what the split says (GamesByTags.as_said), at each exit

pub returns-in_err-further-in-Ok-Some-clause-said : goal.returns-in_err-further-in-Ok-Some-clause-said
returns-in_err-further-in-Ok-Some-clause-said g c =
    as_said true c.args.game.now.limit c.args.text.now c.args.at c.args.game.now c.apply_token.new.game
    c.from_residual.result (search rules) (search rules)

pub returns-in-Ended-clause-said : goal.returns-in-Ended-clause-said
returns-in-Ended-clause-said g c =
    as_said true c.args.game.now.limit c.args.text.now c.args.at c.args.game.now c.apply_token.new.game
    (Ok (Some c.in-Ended.end)) (search rules) (search rules)

pub returns-in-Ok-None-clause-said : goal.returns-in-Ok-None-clause-said
returns-in-Ok-None-clause-said g c =
    as_said true c.args.game.now.limit c.args.text.now c.args.at c.args.game.now c.loop-token.game
    (Err (record { kind = NoResult; offset = length c.args.text.now })) (search rules) (search rules)

pub returns-in-Ok-None-2-clause-said : goal.returns-in-Ok-None-2-clause-said
returns-in-Ok-None-2-clause-said g c =
    as_said true c.args.game.now.limit c.args.text.now c.args.at c.args.game.now c.loop-token.game (Ok None)
    (search rules)
    (search rules)

pub returns-in-Err-clause-said : goal.returns-in-Err-clause-said
returns-in-Err-clause-said g c =
    as_said true c.args.game.now.limit c.args.text.now c.args.at c.args.game.now c.loop-token.game
    (Err c.reported_fault.result) (search rules) (search rules)
